-- The folder model: the main file, the scratch file beside it, and what a machine stop may leave as main.
use Rattle.std.specs.Prelude.{ℕ, ◌≡◌, ◌↔◌, Bool, IsTrue, List, [], ◌∷◌, ◌++◌, Option, Some}

-- the scratch file: none, or bytes that are on the disk or not
pub data Scratch : Type 0 where
  Gone : Scratch
  Unsynced : (bytes : List ℕ) → Scratch
  Synced : (bytes : List ℕ) → Scratch

-- what a stop may leave as main: one of these, the oldest first, or any bytes
pub data Kept : Type 0 where
  Images : (images : List (Option (List ℕ))) → Kept
  Wild : Kept

-- what a folder holds; and of its last start, what main was then and whether `kept` had main alone
pub record Contents : Type 0 where
  pub main : Option (List ℕ)
  pub scratch : Scratch
  pub kept : Kept
  pub first : Option (List ℕ)
  pub alone : Bool

abbrev pub IsThere : Scratch → Type 0
IsThere Gone = ⊥
IsThere (Unsynced bytes) = Unit {0}
IsThere (Synced bytes) = Unit {0}

abbrev pub scratch_bytes : Scratch → List ℕ
scratch_bytes Gone = []
scratch_bytes (Unsynced bytes) = bytes
scratch_bytes (Synced bytes) = bytes

-- only the scratch file differs, and is this one
pub record ChangesScratch (scratch_after : Scratch) (old new : Contents) : Type 0 where
  pub main : new.main ≡ old.main
  pub kept : new.kept ≡ old.kept
  pub first : new.first ≡ old.first
  pub alone : new.alone ≡ old.alone
  pub scratch : new.scratch ≡ scratch_after

-- a scratch file after a call that failed: as before, or any that is not on the disk
pub data Loosened (old : Scratch) : Scratch → Type 0 where
  same : Loosened old old
  any : (bytes : List ℕ) → Loosened old (Unsynced bytes)

-- only the scratch file may differ, as after a call that failed
pub record LoosensScratch (old new : Contents) : Type 0 where
  pub main : new.main ≡ old.main
  pub kept : new.kept ≡ old.kept
  pub first : new.first ≡ old.first
  pub alone : new.alone ≡ old.alone
  pub scratch : Loosened old.scratch new.scratch

abbrev pub kept_with : Kept → Option (List ℕ) → Kept
kept_with (Images images) main = Images (images ++ main ∷ [])
kept_with Wild main = Wild

-- what a stop may leave once a scratch file was renamed: a rename may reach the disk before bytes that no sync brought there
abbrev pub kept_by_rename : Scratch → Kept → Kept
kept_by_rename Gone kept = Wild
kept_by_rename (Unsynced bytes) kept = Wild
kept_by_rename (Synced bytes) kept = kept_with kept (Some bytes)

-- the folder once its scratch file was moved over main
abbrev pub renamed : Contents → Contents
renamed c = record c { main = Some (scratch_bytes c.scratch); scratch = Gone; kept = kept_by_rename c.scratch c.kept }

abbrev pub main_alone : Kept → Option (List ℕ) → Kept
main_alone (Images images) main = Images (main ∷ [])
main_alone Wild main = Wild

-- the folder once it was synced
abbrev pub folder_synced : Contents → Contents
folder_synced c = record c { kept = main_alone c.kept c.main }

-- a session starts: what is there now is its first
pub record Starts (old new : Contents) : Type 0 where
  pub main : new.main ≡ old.main
  pub scratch : new.scratch ≡ old.scratch
  pub kept : new.kept ≡ old.kept
  pub first : new.first ≡ old.main
  pub alone : IsTrue new.alone ↔ (old.kept ≡ Images (old.main ∷ []))
