-- What bounds the failures of a session's folder.
use Rattle.std.specs.Prelude.{◌≡◌, ◌≤◌, ◌<◌, ◌+◌, ◌-◌, ◌^◌, min, All, IfSome}
use Rattle.folder_disk.specs.declared.call.FolderCall.{FolderCall}
use Rattle.folder_disk.specs.Due.{count_of}
use Rattle.folder_disk.specs.Planned.{left_to_strike}
use Rattle.folder_disk.specs.Tally.{Tally, most_of}
use Rattle.shelf.specs.declared.store.Store.{Store}
use Rattle.replay_run.specs.Settings.{Value}

-- no more calls fail than the store says, of those that failed and those that are planned to
pub record FailsWithin {M : Type 0} (s : Store Value M) (tally : Tally) : Type 0 where
  pub due : most_of s.folder.count tally.due ≡ s.folder.most
  pub struck : IfSome s.folder.most (λ most. min (tally.count + left_to_strike tally.due.made tally.due.planned) (2 ^ 64 - 1) ≤ most)
  -- the numbers are those that a folder counts
  pub numbers : All (λ p. p.number < 2 ^ 64) tally.due.planned
  pub made : (call : FolderCall) → count_of tally.due.made call ≤ 2 ^ 64 - 1
  pub count : tally.count ≤ 2 ^ 64 - 1
