-- What `replay` answers: which script the source gave, what is printed of its run, or why there is none.
use Rattle.std.specs.Prelude.{ℕ, ◌≡◌, ◌⊎◌, ◌++◌, Bool, true, false, List, [], Result, Ok, Err}
use Rattle.store_traits.specs.Faults.{Counts}
use Rattle.byte_io.specs.ReadAll.{ReadsAll}
use Rattle.byte_io.specs.Seen.{SinkSeen, SourceSeen}
use Rattle.byte_io.specs.declared.read_all_error.ReadAllError.TheVariants as reading
use Rattle.script_lang.specs.Meaning.{Faulty, Means}
use Rattle.script_lang.specs.TranscriptText as transcript
use Rattle.script_lang.specs.declared.plan.mode.Mode.TheVariants as mode
use Rattle.script_lang.specs.declared.plan.script.Script.{Script}
use Rattle.script_lang.specs.declared.parsing.script_error.ScriptFault.{ScriptFault}
use Rattle.script_lang.specs.declared.parsing.script_error.ScriptFault.TheVariants as fault
use Rattle.script_lang.specs.declared.transcripts.transcript.Transcript.{Transcript}
use Rattle.replay_run.specs.PrefsBasis.{prefs_basis}
use Rattle.replay_run.specs.Replays.{Replays}
use Rattle.prefs_tool.specs.Ending.{EndsWith}
use Rattle.prefs_tool.specs.Outcome.{Tells}
use Rattle.prefs_tool.specs.Status.{line_of}
use Rattle.prefs_tool.specs.declared.status.Status.{Status}
use Rattle.prefs_tool.specs.declared.tool_error.ToolError.{ToolError}
use Rattle.prefs_tool.specs.declared.tool_error.ToolError.TheVariants as error

-- the limit of a script, in bytes
abbrev pub script_limit : ℕ
script_limit = 67108864

-- ---- the script that the source gives

-- The source was read to its end, and its bytes are this script. Where it is not told, some bytes are.
pub record GivesScript (old : SourceSeen) (script : Script) (new : SourceSeen) : Type 0 where
  pub bytes : List ℕ
  pub read : ReadsAll script_limit old (Ok bytes) new
  pub means : Means mode.Replay bytes script

-- the source was read to its end, and its bytes are none: of their first faulty line this is the least fault
pub record GivesNone (old : SourceSeen) (number : ℕ) (fault : ScriptFault) (new : SourceSeen) : Type 0 where
  pub bytes : List ℕ
  pub read : ReadsAll script_limit old (Ok bytes) new
  pub faulty : Faulty mode.Replay bytes number fault

-- Why there is no script: its bytes are none, or are too many; a read failed; or memory was wanting.
abbrev pub StopsScript : SourceSeen → ToolError → SourceSeen → Type 0
StopsScript old (error.Script number fault) new = GivesNone old number fault new
StopsScript old error.ScriptTooLong new = ReadsAll script_limit old (Err (reading.TooLong script_limit)) new
StopsScript old error.ReadFault new = ReadsAll script_limit old (Err reading.ReadFault) new
StopsScript old error.NoMemory new = ReadsAll script_limit old (Err reading.NoMemory) new
StopsScript old _ new = ⊥

abbrev pub ReadsScript : SourceSeen → Result Script ToolError → SourceSeen → Type 0
ReadsScript old (Ok script) new = GivesScript old script new
ReadsScript old (Err e) new = StopsScript old e new

-- whether the source failed
abbrev pub is_read_fault : {T : Type 0} → Result T ToolError → Bool
is_read_fault (Err error.ReadFault) = true
is_read_fault _ = false

-- the same of the bytes
abbrev pub ReadsBytes : List ℕ → Result Script ToolError → Type 0
ReadsBytes bytes (Ok script) = Means mode.Replay bytes script
ReadsBytes bytes (Err (error.Script number fault)) = Faulty mode.Replay bytes number fault
ReadsBytes bytes (Err error.NoMemory) = Unit {0}
ReadsBytes bytes (Err _) = ⊥

-- want of memory is told by its own status
abbrev pub refusal_of : ℕ → ScriptFault → ToolError
refusal_of number fault.NoMemory = error.NoMemory
refusal_of number other = error.Script number other

-- ---- what is printed

-- the text of what the script comes to
pub record PrintsRun (old : SourceSeen) (text : List ℕ) (new : SourceSeen) : Type 0 where
  pub script : Script
  pub given : GivesScript old script new
  pub run : Transcript
  pub replays : ∥ Replays prefs_basis script run ∥₁
  pub text_is : text ≡ transcript.text run

-- what was printed before memory was wanting: nothing, or a prefix of that text
abbrev pub PrintsPrefixOfRun : SourceSeen → List ℕ → SourceSeen → Type 0
PrintsPrefixOfRun old text new =
    ((text ≡ []) × StopsScript old error.NoMemory new)
    ⊎ ((whole : List ℕ) × (rest : List ℕ) × PrintsRun old whole new × (whole ≡ text ++ rest))

-- the answer, with the text that is to be written of it
abbrev pub DoesScript : SourceSeen → Result (Unit {0}) ToolError → List ℕ → SourceSeen → Type 0
DoesScript old (Ok done) text new = PrintsRun old text new
DoesScript old (Err error.NoMemory) text new = PrintsPrefixOfRun old text new
DoesScript old (Err e) text new = (text ≡ line_of e) × StopsScript old e new

-- the same, and the source's count of faults
pub record AnswersScript (old : SourceSeen) (answer : Result (Unit {0}) ToolError) (text : List ℕ) (new : SourceSeen) : Type 0 where
  pub does : DoesScript old answer text new
  pub faults : Counts (is_read_fault answer) old.count new.count

-- how the body of `replay` ends
abbrev pub EndsReplay : {T : Type 0} → SourceSeen → SinkSeen → Result T ToolError → SourceSeen → SinkSeen → Type 0
EndsReplay source sink result source_after sink_after = EndsWith (λ answer text. AnswersScript source answer text source_after) sink result sink_after

-- how `replay` ends
abbrev pub Replayed : SourceSeen → SinkSeen → Status → SourceSeen → SinkSeen → Type 0
Replayed source sink status source_after sink_after = Tells (λ answer text. AnswersScript source answer text source_after) status sink sink_after

-- The whole of a told source was a script, and a told sink gained the text of its run.
pub record Printed (source : SourceSeen) (sink : SinkSeen) (source_after : SourceSeen) (sink_after : SinkSeen) : Type 0 where
  pub script : Script
  pub means : Means mode.Replay source.left script
  pub run : Transcript
  pub replays : ∥ Replays prefs_basis script run ∥₁
  pub read : source_after.left ≡ []
  pub printed : sink_after.held ≡ sink.held ++ transcript.text run
