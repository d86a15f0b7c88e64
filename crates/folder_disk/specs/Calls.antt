-- Calls of a folder that tells what is due, one after the other.
use Rattle.std.specs.Prelude.{◌≡◌, Bool, true, false, List, [], ◌∷◌, if◌then◌else◌}
use Rattle.folder_disk.specs.declared.call.FolderCall.{FolderCall}
use Rattle.folder_disk.specs.Due.{Due, fails, taken_in}

-- whether one of these calls fails, where each is made once those before it went well
abbrev pub any_fails : List FolderCall → Due → Bool
any_fails [] due = false
any_fails (call ∷ calls) due = if fails call due then true else any_fails calls (taken_in call due)

-- what is due once they were made, up to the first that fails
abbrev pub due_after : List FolderCall → Due → Due
due_after [] due = due
due_after (call ∷ calls) due = if fails call due then taken_in call due else due_after calls (taken_in call due)

-- these calls were made and no other, up to the first that was due to fail
pub record Makes (calls : List FolderCall) (has_failed : Bool) (old new : Due) : Type 0 where
  pub failed : has_failed ≡ any_fails calls old
  pub due : new ≡ due_after calls old
