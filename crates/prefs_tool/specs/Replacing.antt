-- What replacing main by a text answers, once main was read.
use Rattle.std.specs.Prelude.{ℕ, ◌≡◌, ◌-◌, ◌^◌, ◌⊎◌, ◌≤◌, ◌<◌, min, true, false, IsTrue, List, [], ◌∷◌, length, Result, Ok, Err}
use Rattle.prefs_model.specs.declared.pref_pair.PrefPair.{PrefPair}
use Rattle.prefs_proto.specs.Encoded.{encoded}
use Rattle.folder_disk.specs.declared.call.FolderCall.TheVariants.{SyncFolder}
use Rattle.folder_disk.specs.Calls.{Makes}
use Rattle.folder_disk.specs.Contents.{folder_synced}
use Rattle.folder_disk.specs.Seen.{FolderSeen}
use Rattle.prefs_tool.specs.Folder.{Leaves, SparesMain, Untouched, replaced, write_calls}
use Rattle.prefs_tool.specs.Reading.{file_limit}
use Rattle.prefs_tool.specs.declared.tool_error.ToolError.{ToolError}
use Rattle.prefs_tool.specs.declared.tool_error.ToolError.TheVariants.{Storage, ValueTooLong, NoMemory}

-- main is the text and is on the disk
abbrev pub Written : List ℕ → FolderSeen → FolderSeen → Type 0
Written text old new = Leaves (folder_synced (replaced text old.contents)) (write_calls (length text)) false old new

-- the folder failed before the rename, or behind it
pub record StopsWriting (text : List ℕ) (old new : FolderSeen) : Type 0 where
  pub place : SparesMain old.contents new.contents ⊎ (new.contents ≡ replaced text old.contents)
  pub made : Makes (write_calls (length text)) true old.tally.due new.tally.due

abbrev pub ReplacesMain : {T : Type 0} → List ℕ → FolderSeen → Result T ToolError → FolderSeen → Type 0
ReplacesMain text old (Ok done) new = IsTrue old.told → Written text old new
ReplacesMain text old (Err Storage) new = IsTrue old.told → StopsWriting text old new
ReplacesMain text old (Err NoMemory) new = IsTrue old.told → Untouched old new
ReplacesMain text old (Err _) new = ⊥

-- the same of the text of a map, which is refused where it is too long for a file
abbrev pub StoresMap : {T : Type 0} → List PrefPair → FolderSeen → Result T ToolError → FolderSeen → Type 0
StoresMap pairs old (Ok done) new = (length (encoded pairs) ≤ file_limit) × (IsTrue old.told → Written (encoded pairs) old new)
StoresMap pairs old (Err Storage) new = (length (encoded pairs) ≤ file_limit) × (IsTrue old.told → StopsWriting (encoded pairs) old new)
StoresMap pairs old (Err (ValueTooLong len)) new =
    (len ≡ min (length (encoded pairs)) (2 ^ 64 - 1)) × (file_limit < len) × (IsTrue old.told → Untouched old new)
StoresMap pairs old (Err NoMemory) new = IsTrue old.told → Untouched old new
StoresMap pairs old (Err _) new = ⊥

-- main stays, and is on the disk; or the folder failed
abbrev pub SyncsMain : {T : Type 0} → FolderSeen → Result T ToolError → FolderSeen → Type 0
SyncsMain old (Ok done) new = IsTrue old.told → Leaves (folder_synced old.contents) (SyncFolder ∷ []) false old new
SyncsMain old (Err Storage) new = IsTrue old.told → Leaves old.contents (SyncFolder ∷ []) true old new
SyncsMain old (Err _) new = ⊥
