-- What a turn asks of the folder, and what that leaves of it.
use Rattle.std.specs.Prelude.{◌≡◌, Bool, true, false, ℕ, List, [], ◌++◌, IsTrue}
use Rattle.std.specs.Bool.{OnTrue}
use Rattle.folder_disk.specs.Contents.{Contents, Unsynced, Synced, scratch_bytes, ChangesScratch, LoosensScratch, renamed, folder_synced}
use Rattle.folder_disk.specs.Tally.{Tallies}
use Rattle.folder_disk.specs.declared.call.FolderCall.{FolderCall}
use Rattle.folder_disk.specs.declared.call.FolderCall.TheVariants as call
use Rattle.step_table.specs.World.{World}

pub data Request : Type 0 where
  ReadMain : Request
  Create : Request
  Append : (piece : List ℕ) → Request
  SyncScratch : Request
  Rename : Request
  SyncFolder : Request

abbrev pub call_of : Request → FolderCall
call_of ReadMain = call.ReadMain
call_of Create = call.Create
call_of (Append piece) = call.Append
call_of SyncScratch = call.SyncScratch
call_of Rename = call.Rename
call_of SyncFolder = call.SyncFolder

-- what a request that went well, or failed, may leave of the folder
abbrev pub Leaves : Request → (failed : Bool) → Contents → Contents → Type 0
Leaves ReadMain failed old new = new ≡ old
Leaves Create false old new = ChangesScratch (Unsynced []) old new
Leaves Create true old new = LoosensScratch old new
Leaves (Append piece) false old new = ChangesScratch (Unsynced (scratch_bytes old.scratch ++ piece)) old new
Leaves (Append piece) true old new = LoosensScratch old new
Leaves SyncScratch false old new = ChangesScratch (Synced (scratch_bytes old.scratch)) old new
Leaves SyncScratch true old new = LoosensScratch old new
Leaves Rename false old new = new ≡ renamed old
Leaves Rename true old new = new ≡ old
Leaves SyncFolder false old new = new ≡ folder_synced old
Leaves SyncFolder true old new = new ≡ old

-- the request was made once, and its call went well or failed; a folder that spares what it holds is as it was where it failed
pub record Serves (request : Request) (failed : Bool) {V T : Type 0} (old new : World V T) : Type 0 where
  pub folder : IsTrue old.told → Leaves request failed old.folder new.folder
  pub spared : IsTrue old.told → IsTrue old.spares → OnTrue failed (new.folder ≡ old.folder)
  pub tally : Tallies old.told (call_of request) failed old.tally new.tally
