-- The main file of a folder in memory, with what a stop may leave in its place.
use Rattle.std.specs.Prelude.{ℕ, ◌+◌, Bool, true, false, List, [], ◌∷◌, ◌++◌, Option, Some, None, map, slice_get}
use Rattle.folder_disk.specs.declared.main_read.MainRead.{MainRead}
use Rattle.folder_disk.specs.declared.mains.FirstMain.{FirstMain}
use Rattle.folder_disk.specs.declared.mains.FirstMain.TheVariants.{Now, Older, Aside}
use Rattle.folder_disk.specs.Contents.{Kept, Images, Wild, kept_with}
use Rattle.folder_disk.specs.MainRead.{main_of}

-- `renames` is how many renames there is memory for
pub record MainsSeen : Type 0 where
  pub main : Option (List ℕ)
  pub kept : Kept
  pub first : Option (List ℕ)
  pub alone : Bool
  pub renames : ℕ

-- at the start a stop leaves main alone
abbrev pub only_main : Option (List ℕ) → MainsSeen
only_main main = record { main = main; kept = Images (main ∷ []); first = main; alone = true; renames = 0 }

abbrev pub kept_of : Bool → List MainRead → MainRead → Kept
kept_of true older now = Wild
kept_of false older now = Images (map main_of older ++ main_of now ∷ [])

abbrev pub found_main : Option MainRead → Option (List ℕ)
found_main (Some main) = main_of main
found_main None = None

abbrev pub first_of : FirstMain → MainRead → List MainRead → Option (List ℕ)
first_of Now now older = main_of now
first_of (Older index) now older = found_main (slice_get older index)
first_of (Aside main) now older = main_of main

-- how many older ones there are at least
abbrev pub first_bound : FirstMain → ℕ
first_bound Now = 0
first_bound (Older index) = index + 1
first_bound (Aside main) = 0

-- what a stop may leave once these bytes, which are on the disk or not, were moved over main
abbrev pub kept_by_move : Bool → List ℕ → Kept → Kept
kept_by_move true bytes kept = kept_with kept (Some bytes)
kept_by_move false bytes kept = Wild

-- where the first is once main has moved to this index
abbrev pub once_replaced : FirstMain → ℕ → FirstMain
once_replaced Now index = Older index
once_replaced (Older first) index = Older first
once_replaced (Aside main) index = Aside main
