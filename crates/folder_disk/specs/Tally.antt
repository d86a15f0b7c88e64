-- A folder's count of faults, and what a call does to it.
use Rattle.std.specs.Prelude.{ℕ, ◌≡◌, ◌+◌, ◌-◌, ◌^◌, ◌≤◌, min, Bool, IsTrue, List, [], ◌∷◌, length, Option, Some, None, if◌then◌else◌}
use Rattle.store_traits.specs.Faults.{Counts, one_more}
use Rattle.folder_disk.specs.declared.call.FolderCall.{FolderCall}
use Rattle.folder_disk.specs.Due.{Due, fails, taken_in}

-- the count of faults; a number that it does not pass, set at the last start, or none; and what decides which calls fail
pub record Tally : Type 0 where
  pub count : ℕ
  pub most : Option ℕ
  pub due : Due

-- where the folder is told, the next such call fails exactly where that is due, and counts as one fault then
pub record AsDue (call : FolderCall) (has_failed : Bool) (old new : Tally) : Type 0 where
  pub failed : has_failed ≡ fails call old.due
  pub count : new.count ≡ (if has_failed then one_more old.count else old.count)
  pub due : new.due ≡ taken_in call old.due

-- what a call does to the tally: it fails only where the count rose
pub record Tallies (told : Bool) (call : FolderCall) (has_failed : Bool) (old new : Tally) : Type 0 where
  pub counts : Counts has_failed old.count new.count
  pub fits : new.count ≤ 2 ^ 64 - 1
  pub most : new.most ≡ old.most
  pub due : IsTrue told → AsDue call has_failed old new

abbrev pub most_with : ℕ → List ℕ → Option ℕ
most_with most [] = Some most
most_with most (left ∷ fuses) = None

-- what the count does not pass from a start on: each planned failure strikes once at most; behind a fuse there is no such number
abbrev pub most_of : ℕ → Due → Option ℕ
most_of count due = most_with (min (count + length due.planned) (2 ^ 64 - 1)) due.fuses

-- what a start does to the tally: it sets what the count does not pass
pub record StartsTally (told : Bool) (old new : Tally) : Type 0 where
  pub count : new.count ≡ old.count
  pub due : IsTrue told → new.due ≡ old.due
  pub most : IsTrue told → new.most ≡ most_of old.count old.due
