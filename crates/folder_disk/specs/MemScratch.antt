-- The scratch file of a folder in memory.
use Rattle.std.specs.Prelude.{ℕ, Bool, true, false, List}
use Rattle.folder_disk.specs.declared.mem_scratch.ScratchState.{ScratchState}
use Rattle.folder_disk.specs.declared.mem_scratch.ScratchState.TheVariants.{Missing, Written, OnDisk}
use Rattle.folder_disk.specs.Contents.{Scratch, Gone, Unsynced, Synced}

-- `room` is how many bytes there is memory for
pub record ScratchSeen : Type 0 where
  pub file : Scratch
  pub room : ℕ

abbrev pub scratch_of : ScratchState → List ℕ → Scratch
scratch_of Missing bytes = Gone
scratch_of Written bytes = Unsynced bytes
scratch_of OnDisk bytes = Synced bytes

abbrev pub is_on_disk : Scratch → Bool
is_on_disk Gone = false
is_on_disk (Unsynced bytes) = false
is_on_disk (Synced bytes) = true
