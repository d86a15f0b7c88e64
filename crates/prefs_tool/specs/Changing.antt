-- What a change of the settings leaves in the folder, and why it stopped.
use Rattle.std.specs.Prelude.{ℕ, ◌≡◌, ◌≢◌, ◌-◌, ◌^◌, ◌<◌, ◌≤◌, ◌⊎◌, min, true, false, IsTrue, List, [], ◌∷◌, length, Option, Result, Ok, Err}
use Rattle.store_traits.specs.declared.applied.Applied.TheVariants.{Changed, Refused}
use Rattle.prefs_model.specs.declared.pref_pair.PrefPair.{PrefPair}
use Rattle.prefs_proto.specs.Encoded.{encoded}
use Rattle.prefs_edit.specs.declared.edit_step.EditStep.{EditStep}
use Rattle.prefs_edit.specs.After.{after_steps}
use Rattle.prefs_edit.specs.Weight.{edit_weight}
use Rattle.folder_disk.specs.declared.call.FolderCall.TheVariants.{ReadMain, SyncFolder}
use Rattle.folder_disk.specs.Calls.{Makes}
use Rattle.folder_disk.specs.Contents.{folder_synced}
use Rattle.folder_disk.specs.Seen.{FolderSeen}
use Rattle.prefs_tool.specs.Folder.{Leaves, OnlyReads, SparesMain, Untouched, replaced, write_calls}
use Rattle.prefs_tool.specs.Reading.{file_limit, ReadsAs, IsCorrupt, IsTooLong}
use Rattle.prefs_tool.specs.declared.tool_error.ToolError.{ToolError}
use Rattle.prefs_tool.specs.declared.tool_error.ToolError.TheVariants.{Storage, Corrupt, TooLong, EditTooLong, ValueTooLong, NoMemory}

-- ---- an edit of one step

abbrev pub IsLight : EditStep → Type 0
IsLight step = edit_weight (step ∷ []) ≤ 65536

abbrev pub IsHeavy : EditStep → Type 0
IsHeavy step = 65536 < edit_weight (step ∷ [])

-- why the step was made no edit
abbrev pub NoEdit : EditStep → ToolError → Type 0
NoEdit step EditTooLong = IsHeavy step
NoEdit step NoMemory = Unit {0}
NoEdit step _ = ⊥

-- the step is one that refuses no map
abbrev pub NeverRefuses : EditStep → Type 0
NeverRefuses step = (pairs : List PrefPair) (code : ℕ) → after_steps (step ∷ []) pairs ≢ Refused code

-- main reads as `before`, of which the step makes `after`
pub record Edits (step : EditStep) (main : Option (List ℕ)) (before after : List PrefPair) : Type 0 where
  pub reads : ReadsAs main before
  pub makes : after_steps (step ∷ []) before ≡ Changed after

-- ---- what the change answers

-- A change is written where it is one. Where it is none the folder is synced alone. Either way main is on the disk.
pub record Stores (before after : List PrefPair) (old new : FolderSeen) : Type 0 where
  pub fits : after ≢ before → length (encoded after) ≤ file_limit
  pub same : after ≡ before → Leaves (folder_synced old.contents) (ReadMain ∷ SyncFolder ∷ []) false old new
  pub other : after ≢ before
      → Leaves (folder_synced (replaced (encoded after) old.contents)) (ReadMain ∷ write_calls (length (encoded after))) false old new

-- the writing of a text stopped before its end: before the rename, where main is as before, or behind it
pub record StopsInside (text : List ℕ) (old new : FolderSeen) : Type 0 where
  pub place : SparesMain old.contents new.contents ⊎ (new.contents ≡ replaced text old.contents)
  pub made : Makes (ReadMain ∷ write_calls (length text)) true old.tally.due new.tally.due

-- the folder failed once main was read
pub record StopsStoring (before after : List PrefPair) (old new : FolderSeen) : Type 0 where
  pub fits : after ≢ before → length (encoded after) ≤ file_limit
  pub same : after ≡ before → Leaves old.contents (ReadMain ∷ SyncFolder ∷ []) true old new
  pub other : after ≢ before → StopsInside (encoded after) old new

-- the new text has more bytes than a file may have
pub record IsRefused (before after : List PrefPair) (len : ℕ) : Type 0 where
  pub differs : after ≢ before
  pub length_is : len ≡ min (length (encoded after)) (2 ^ 64 - 1)
  pub past : file_limit < len

-- the folder failed at the reading of main, or at the writing of what the step makes of the map
abbrev pub StopsChanging : EditStep → FolderSeen → FolderSeen → Type 0
StopsChanging step old new =
    OnlyReads true old new
    ⊎ ((before : List PrefPair) × (after : List PrefPair) × Edits step old.contents.main before after × StopsStoring before after old new)

-- The weight is tested before main is read. Where the folder is not told, of its contents and calls nothing is said.
abbrev pub ChangesMain : {T : Type 0} → EditStep → FolderSeen → Result T ToolError → FolderSeen → Type 0
ChangesMain step old (Ok done) new =
    IsLight step × (IsTrue old.told → (before : List PrefPair) × (after : List PrefPair) × Edits step old.contents.main before after × Stores before after old new)
ChangesMain step old (Err Storage) new = IsLight step × (IsTrue old.told → StopsChanging step old new)
ChangesMain step old (Err Corrupt) new = IsLight step × (IsTrue old.told → IsCorrupt old.contents.main × OnlyReads false old new)
ChangesMain step old (Err (TooLong len)) new = IsLight step × (IsTrue old.told → IsTooLong old.contents.main len × OnlyReads false old new)
ChangesMain step old (Err EditTooLong) new = IsHeavy step × (IsTrue old.told → Untouched old new)
ChangesMain step old (Err (ValueTooLong len)) new =
    IsLight step
    × (IsTrue old.told → (before : List PrefPair) × (after : List PrefPair) × Edits step old.contents.main before after × IsRefused before after len × OnlyReads false old new)
ChangesMain step old (Err NoMemory) new = IsTrue old.told → Untouched old new ⊎ OnlyReads false old new
ChangesMain step old (Err _) new = ⊥
