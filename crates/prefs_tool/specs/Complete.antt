-- When nothing stands against a command, and that it is done then; and which statuses tell of a device's fault.
use Rattle.std.specs.Prelude.{ℕ, ◌≡◌, ◌≢◌, ◌≤◌, IsTrue, List, length, Option}
use Rattle.store_traits.specs.Faults.{Rose}
use Rattle.byte_io.specs.Seen.{SinkSeen, SourceSeen}
use Rattle.folder_disk.specs.Seen.{FolderSeen}
use Rattle.script_lang.specs.Meaning.{Means}
use Rattle.script_lang.specs.declared.plan.mode.Mode.TheVariants as mode
use Rattle.script_lang.specs.declared.plan.script.Script.{Script}
use Rattle.prefs_model.specs.declared.pref_pair.PrefPair.{PrefPair}
use Rattle.prefs_proto.specs.Encoded.{encoded}
use Rattle.prefs_edit.specs.declared.edit_step.EditStep.{EditStep}
use Rattle.prefs_edit.specs.declared.edit_step.EditStep.TheVariants as step
use Rattle.command_words.specs.declared.command.Command.{Command}
use Rattle.command_words.specs.declared.command.Command.TheVariants.{Set, Get, Remove}
use Rattle.prefs_tool.specs.Reading.{ReadsAs, file_limit}
use Rattle.prefs_tool.specs.Changing.{Edits, IsLight}
use Rattle.prefs_tool.specs.Replaying.{script_limit}
use Rattle.prefs_tool.specs.declared.status.Status.{Status}
use Rattle.prefs_tool.specs.declared.status.Status.TheVariants.{Done, WriteFault, NoMemory, NoKey}

-- neither the edit nor what it makes of main is too long
pub record Fits (change : EditStep) (main : Option (List ℕ)) : Type 0 where
  pub light : IsLight change
  pub short : (before after : List PrefPair) → Edits change main before after → length (encoded after) ≤ file_limit

abbrev pub FitsMain : Command → Option (List ℕ) → Type 0
FitsMain (Set key value) main = Fits (step.Set key value) main
FitsMain (Remove key) main = Fits (step.Remove key) main
FitsMain _ main = Unit {0}

-- all went well, or memory was wanting; or `get` did not find its key
abbrev pub IsDone : Command → Status → Type 0
IsDone command Done = Unit {0}
IsDone command NoMemory = Unit {0}
IsDone (Get key) NoKey = Unit {0}
IsDone _ _ = ⊥

-- main of a told folder reads as a map, nothing is too long, and neither the folder nor the sink failed
pub record NothingAgainst (command : Command) (folder folder_after : FolderSeen) (sink sink_after : SinkSeen) : Type 0 where
  pub told : IsTrue folder.told
  pub pairs : List PrefPair
  pub reads : ReadsAs folder.contents.main pairs
  pub fits : FitsMain command folder.contents.main
  pub folder_sound : Rose folder.tally.count folder_after.tally.count → ⊥
  pub sink_sound : Rose sink.count sink_after.count → ⊥

-- the source is told, and neither it nor the sink failed
pub record AreSound (source source_after : SourceSeen) (sink sink_after : SinkSeen) : Type 0 where
  pub told : IsTrue source.told
  pub source_sound : Rose source.count source_after.count → ⊥
  pub sink_sound : Rose sink.count sink_after.count → ⊥

-- the bytes are this script, and within the limit
pub record IsScript (bytes : List ℕ) (script : Script) : Type 0 where
  pub means : Means mode.Replay bytes script
  pub short : length bytes ≤ script_limit

-- A device's fault has a status of its own. Its count rose where that is given, and is as it was where it is not, unless the
-- sink failed too, which is told before all else.
pub record IsToldBy (own status : Status) (before now : ℕ) : Type 0 where
  pub rose : status ≡ own → Rose before now
  pub kept : status ≢ own → status ≢ WriteFault → now ≡ before
