-- What a command answers, by its status: what it tells, why it stopped, and what the folder and the sink hold then.
use Rattle.std.specs.Prelude.{ℕ, ◌≡◌, ◌⊎◌, ◌++◌, Bool, IsTrue, List, [], Option, Some, None, Result, Ok, Err}
use Rattle.std.specs.List.{flat_map}
use Rattle.store_traits.specs.Faults.{Counts}
use Rattle.byte_io.specs.Seen.{SinkSeen}
use Rattle.prefs_model.specs.declared.pref_pair.PrefPair.{PrefPair}
use Rattle.prefs_model.specs.declared.pref_value.PrefValue.{PrefValue}
use Rattle.prefs_model.specs.Map.{value_at}
use Rattle.prefs_edit.specs.declared.edit_step.EditStep.TheVariants as step
use Rattle.prefs_text.specs.ValueText.{value_text}
use Rattle.prefs_text.specs.MapText.{pair_text}
use Rattle.folder_disk.specs.Seen.{FolderSeen}
use Rattle.prefs_tool.specs.Reading.{ReadsAs, StopsReading}
use Rattle.prefs_tool.specs.Changing.{ChangesMain}
use Rattle.prefs_tool.specs.Folder.{OnlyReads, Untouched, is_storage}
use Rattle.prefs_tool.specs.Status.{line, line_of, text_after, status_after}
use Rattle.prefs_tool.specs.Writing.{BreaksOff, Gains}
use Rattle.command_words.specs.declared.command.Command.{Command}
use Rattle.command_words.specs.declared.command.Command.TheVariants.{Set, Get, Remove, Show, Replay}
use Rattle.prefs_tool.specs.declared.status.Status.{Status}
use Rattle.prefs_tool.specs.declared.status.Status.TheVariants.{WriteFault, NoMemory}
use Rattle.prefs_tool.specs.declared.tool_error.ToolError.{ToolError}
use Rattle.prefs_tool.specs.declared.tool_error.ToolError.TheVariants as error

-- ---- what is printed

-- main reads as a map that has this value at the key
pub record Has (key : List ℕ) (value : PrefValue) (main : Option (List ℕ)) : Type 0 where
  pub pairs : List PrefPair
  pub reads : ReadsAs main pairs
  pub value_is : value_at pairs key ≡ Some value

-- main reads as a map without the key
pub record Lacks (key : List ℕ) (main : Option (List ℕ)) : Type 0 where
  pub pairs : List PrefPair
  pub reads : ReadsAs main pairs
  pub none : value_at pairs key ≡ None

-- the line of each pair, in the order of the keys
abbrev pub shown : List PrefPair → List ℕ
shown pairs = flat_map (λ pair. line (pair_text pair)) pairs

-- what the command prints where all goes well
abbrev pub Prints : Command → Option (List ℕ) → List ℕ → Type 0
Prints (Get key) main text = (value : PrefValue) × Has key value main × (text ≡ line (value_text value))
Prints Show main text = (pairs : List PrefPair) × ReadsAs main pairs × (text ≡ shown pairs)
Prints _ main text = text ≡ []

-- what was printed before memory was wanting: nothing, or a prefix of what the command prints
abbrev pub PrintsPrefix : Command → Option (List ℕ) → List ℕ → Type 0
PrintsPrefix command main text = (text ≡ []) ⊎ ((whole : List ℕ) × (rest : List ℕ) × Prints command main whole × (whole ≡ text ++ rest))

-- ---- what is answered

-- every command but `replay`
abbrev pub ReadsNoScript : Command → Type 0
ReadsNoScript Replay = ⊥
ReadsNoScript _ = Unit {0}

-- what a command prints that only looks at main, or why it does not
abbrev pub Looks : Bool → Command → Option (List ℕ) → Result (Unit {0}) ToolError → List ℕ → Type 0
Looks told command main (Ok done) text = IsTrue told → Prints command main text
Looks told command main (Err error.NoMemory) text = IsTrue told → PrintsPrefix command main text
Looks told (Get key) main (Err error.NoKey) text = (text ≡ line_of error.NoKey) × (IsTrue told → Lacks key main)
Looks told command main (Err e) text = (text ≡ line_of e) × StopsReading told main e

-- Main was read once and the folder is whole; where memory was wanting before, nothing was asked of it.
abbrev pub LeavesWhole : Result (Unit {0}) ToolError → FolderSeen → FolderSeen → Type 0
LeavesWhole answer old new = OnlyReads (is_storage answer) old new ⊎ ((answer ≡ Err error.NoMemory) × Untouched old new)

-- What a command does, its answer, and the text that is to be written of it. Where the folder is not told, of its contents
-- and calls nothing is said. What `replay` answers is another matter.
abbrev pub Does : Command → FolderSeen → Result (Unit {0}) ToolError → List ℕ → FolderSeen → Type 0
Does (Set key value) old answer text new = ChangesMain (step.Set key value) old answer new × (text ≡ text_after answer)
Does (Remove key) old answer text new = ChangesMain (step.Remove key) old answer new × (text ≡ text_after answer)
Does Replay old answer text new = ⊥
Does command old answer text new = Looks old.told command old.contents.main answer text × (IsTrue old.told → LeavesWhole answer old new)

-- the same, and the folder's count of faults, told or not
pub record Answers (command : Command) (old : FolderSeen) (answer : Result (Unit {0}) ToolError) (text : List ℕ) (new : FolderSeen) : Type 0 where
  pub does : Does command old answer text new
  pub faults : Counts (is_storage answer) old.tally.count new.tally.count

-- The sink gained the text, and the status is that of the answer; or a write failed, and it gained a prefix.
abbrev pub Reports : Result (Unit {0}) ToolError → List ℕ → Status → SinkSeen → SinkSeen → Type 0
Reports answer text status old new = ((status ≡ status_after answer) × Gains text old new) ⊎ ((status ≡ WriteFault) × BreaksOff text old new)

-- there is an answer with its text, and the status and the sink tell it
pub record Tells (answers : Result (Unit {0}) ToolError → List ℕ → Type 0) (status : Status) (old new : SinkSeen) : Type 0 where
  pub answer : Result (Unit {0}) ToolError
  pub text : List ℕ
  pub answered : answers answer text
  pub reports : Reports answer text status old new

abbrev pub Outcome : Command → FolderSeen → SinkSeen → Status → FolderSeen → SinkSeen → Type 0
Outcome command folder sink status folder_after sink_after = Tells (λ answer text. Answers command folder answer text folder_after) status sink sink_after

-- words that are no command: the sink is told so, unless memory was wanting before
abbrev pub RefusesWords : Status → SinkSeen → SinkSeen → Type 0
RefusesWords status old new = Reports (Err error.Words) (line_of error.Words) status old new ⊎ ((status ≡ NoMemory) × (new ≡ old))
