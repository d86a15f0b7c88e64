-- A change of the settings, by the step at which it stopped.
use Rattle.std.proofs.Common.{◌≡◌, ◌≢◌, inl, inr, ℕ, Bool, false, IsTrue, Result, Ok, Err, List, [], ◌∷◌, ◌⊎◌, length, subst}
use Rattle.store_traits.specs.Faults.{Counts}
use Rattle.store_traits.proofs.FaultLemmas.{counts_none}
use Rattle.folder_disk.specs.declared.call.FolderCall.TheVariants.{ReadMain, SyncFolder}
use Rattle.folder_disk.specs.declared.folder.Folder as folder_trait
use Rattle.folder_disk.specs.Contents.{Contents, folder_synced}
use Rattle.folder_disk.specs.Seen.{FolderSeen, folder_seen}
use Rattle.folder_disk.proofs.CallLemmas.{makes_more}
use Rattle.prefs_model.specs.declared.pref_pair.PrefPair.{PrefPair}
use Rattle.prefs_proto.specs.Encoded.{encoded}
use Rattle.prefs_edit.specs.declared.edit_step.EditStep.{EditStep}
use Rattle.prefs_tool.specs.Changing.{ChangesMain, Edits, IsLight, NoEdit, StopsInside}
use Rattle.prefs_tool.specs.Folder.{OnlyReads, SparesMain, is_storage, replaced, write_calls}
use Rattle.prefs_tool.specs.Reading.{StopsReading}
use Rattle.prefs_tool.specs.Replacing.{StopsWriting, StoresMap, SyncsMain}
use Rattle.prefs_tool.specs.declared.tool_error.ToolError.{ToolError}
use Rattle.prefs_tool.specs.declared.tool_error.ToolError.TheVariants.{Storage, Corrupt, TooLong, EditTooLong, ValueTooLong, NoMemory}
use Rattle.prefs_tool.proofs.FolderLemmas.{behind_reading, untouched}

pub no_truth : (b : Bool) → b ≡ false → IsTrue b → ⊥
no_truth b is holds = cc

-- ---- before main is read

pub edit_stops : (T : Type 0) (step : EditStep) (old : FolderSeen) (e : ToolError) → NoEdit step e → ChangesMain {T = T} step old (Err e) old
edit_stops T step old EditTooLong none = (none, λ told. untouched old)
edit_stops T step old NoMemory none = λ told. inl (untouched old)
edit_stops T step old e none = absurd none

pub edit_is_no_fault : (T : Type 0) (step : EditStep) (count : ℕ) (e : ToolError) → NoEdit step e → Counts (is_storage {T = T} (Err e)) count count
edit_is_no_fault T step count EditTooLong none = counts_none count
edit_is_no_fault T step count NoMemory none = counts_none count
edit_is_no_fault T step count e none = absurd none

-- ---- at the reading of main, and of the map behind it

pub reading_stops : (T : Type 0) (step : EditStep) (old new : FolderSeen) (e : ToolError) → IsLight step → StopsReading old.told old.contents.main e
    → (IsTrue old.told → OnlyReads (is_storage {T = T} (Err e)) old new) → ChangesMain {T = T} step old (Err e) new
reading_stops T step old new Storage light stops only = (light, λ told. inl (only told))
reading_stops T step old new Corrupt light stops only = (light, λ told. (stops told, only told))
reading_stops T step old new (TooLong len) light stops only = (light, λ told. (stops told, only told))
reading_stops T step old new NoMemory light stops only = λ told. inr (only told)
reading_stops T step old new e light stops only = absurd stops

-- ---- behind it

-- where the writing stops, counted from before main was read
stops_behind_reading : (text : List ℕ) (old middle new : FolderSeen) → OnlyReads false old middle → StopsWriting text middle new → StopsInside text old new
stops_behind_reading text old middle new read stops = record {
  place = subst (λ (c : Contents). SparesMain c new.contents ⊎ (new.contents ≡ replaced text c)) read.contents stops.place;
  made = makes_more (ReadMain ∷ []) (write_calls (length text)) _ old.tally.due middle.tally.due new.tally.due read.made stops.made;
}

module _ {F : Type 0} (f : folder_trait.Ghosts F) where
  abbrev seen : F → FolderSeen
  seen folder = folder_seen f folder

  module _ (step : EditStep) (old middle new : F) (pairs after : List PrefPair) (light : IsLight step)
      (edits : IsTrue f.told → Edits step (f.contents old).main pairs after) (read : IsTrue f.told → OnlyReads false (seen old) (seen middle)) where
    -- the map stays as it was, and the folder was synced
    pub synced : {T : Type 0} (result : Result T ToolError) → after ≡ pairs → SyncsMain (seen middle) result (seen new) → ChangesMain step (seen old) result (seen new)
    synced (Ok done) stay syncs = (
      light,
      λ told. (
        pairs,
        after,
        edits told,
        record {
          fits = λ differs. absurd (differs stay);
          same = λ _. behind_reading folder_synced (SyncFolder ∷ []) _ (seen old) (seen middle) (seen new) (read told) (syncs told);
          other = λ differs. absurd (differs stay);
        },
      ),
    )
    synced (Err Storage) stay syncs = (
      light,
      λ told. inr (
        pairs,
        after,
        edits told,
        record {
          fits = λ differs. absurd (differs stay);
          same = λ _. behind_reading (λ c. c) (SyncFolder ∷ []) _ (seen old) (seen middle) (seen new) (read told) (syncs told);
          other = λ differs. absurd (differs stay);
        },
      ),
    )
    synced (Err e) stay syncs = absurd syncs

    -- another map was to be stored
    pub stored : {T : Type 0} (result : Result T ToolError) → after ≢ pairs → StoresMap after (seen middle) result (seen new) → ChangesMain step (seen old) result (seen new)
    stored (Ok done) differs stores = (
      light,
      λ told. (
        pairs,
        after,
        edits told,
        record {
          fits = λ _. stores.0;
          same = λ stay. absurd (differs stay);
          other = λ _. behind_reading (λ c. folder_synced (replaced (encoded after) c)) (write_calls (length (encoded after))) _ (seen old) (seen middle) (seen new) (read told) (stores.1 told);
        },
      ),
    )
    stored (Err Storage) differs stores = (
      light,
      λ told. inr (
        pairs,
        after,
        edits told,
        record {
          fits = λ _. stores.0;
          same = λ stay. absurd (differs stay);
          other = λ _. stops_behind_reading (encoded after) (seen old) (seen middle) (seen new) (read told) (stores.1 told);
        },
      ),
    )
    stored (Err (ValueTooLong len)) differs stores = (
      light,
      λ told. (
        pairs,
        after,
        edits told,
        record { differs = differs; length_is = stores.0; past = stores.1 },
        behind_reading (λ c. c) [] _ (seen old) (seen middle) (seen new) (read told) (stores.2 told),
      ),
    )
    stored (Err NoMemory) differs stores = λ told. inr (behind_reading (λ c. c) [] _ (seen old) (seen middle) (seen new) (read told) (stores told))
    stored (Err e) differs stores = absurd stores
