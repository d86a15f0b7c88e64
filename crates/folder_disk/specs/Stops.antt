-- A stop of the machine, and what it finds of a folder.
use Rattle.std.specs.Prelude.{ℕ, ◌≡◌, ◌-◌, min, List, [], ◌∷◌, length, slice_index_or, Contains, Option, None}
use Rattle.folder_disk.specs.Contents.{Contents, Kept, Images, Wild}

-- main may be one of these, or any bytes
abbrev pub MayBeLeft : Kept → Option (List ℕ) → Type 0
MayBeLeft (Images images) main = Contains images main
MayBeLeft Wild main = Unit {0}

-- the folder behind a stop: it may have any scratch file
pub record IsLeftBy (before after : Contents) : Type 0 where
  pub main : MayBeLeft before.kept after.main
  pub kept : after.kept ≡ Images (after.main ∷ [])

-- a stop during a call finds what stood before it or what stands after it
pub data IsLeftWithin (before after : Contents) (left : Contents) : Type 0 where
  early : IsLeftBy before left → IsLeftWithin before after left
  late : IsLeftBy after left → IsLeftWithin before after left

-- the image with this number, counted from 0, or the last where there are fewer
abbrev pub image : ℕ → List (Option (List ℕ)) → Option (List ℕ)
image number images = slice_index_or images (min number (length images - 1)) None

abbrev pub IsTame : Kept → Type 0
IsTame (Images images) = Unit {0}
IsTame Wild = ⊥

-- what a stop may leave as main, the oldest first
abbrev pub images_of : Kept → List (Option (List ℕ))
images_of (Images images) = images
images_of Wild = []
