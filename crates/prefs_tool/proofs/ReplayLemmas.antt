-- How `replay` ends, by what its source gave.
use Rattle.std.proofs.Common.{◌∙◌, inl, inr, ℕ, false, Result, Ok, Err, List, [], length, refl, sym, append-nil, arith}
use Rattle.store_traits.specs.Faults.{Counts}
use Rattle.byte_io.specs.ReadAll.{ReadsAll}
use Rattle.byte_io.specs.Seen.{SinkSeen, SourceSeen}
use Rattle.byte_io.specs.declared.read_all_error.ReadAllError.TheVariants as reading
use Rattle.script_lang.specs.Meaning.{IsRefusalOf}
use Rattle.script_lang.specs.TranscriptText as transcript
use Rattle.script_lang.specs.declared.plan.mode.Mode.TheVariants as mode
use Rattle.script_lang.specs.declared.plan.script.Script.{Script}
use Rattle.script_lang.specs.declared.parsing.script_error.ScriptFault.{ScriptFault}
use Rattle.script_lang.specs.declared.parsing.script_error.ScriptFault.TheVariants as fault
use Rattle.script_lang.specs.declared.transcripts.transcript.Transcript.{Transcript}
use Rattle.replay_run.specs.PrefsBasis.{prefs_basis}
use Rattle.replay_run.specs.Replays.{Replays}
use Rattle.prefs_tool.specs.Replaying.{AnswersScript, EndsReplay, GivesScript, PrintsRun, ReadsBytes, ReadsScript, StopsScript, is_read_fault, refusal_of, script_limit}
use Rattle.prefs_tool.specs.Writing.{WritesText}
use Rattle.prefs_tool.specs.declared.tool_error.ToolError.{ToolError}
use Rattle.prefs_tool.specs.declared.tool_error.ToolError.TheVariants as error
use Rattle.prefs_tool.proofs.EndLemmas.{none_gained, text_ends}

-- ---- what is read

-- why the bytes are no script, as the command tells it
pub refuses : (bytes : List ℕ) (number : ℕ) (broken : ScriptFault) → IsRefusalOf mode.Replay bytes (record { line = number; fault = broken }) → ReadsBytes bytes (Err (refusal_of number broken))
refuses bytes number fault.NoMemory why = tt
refuses bytes number broken (inl wanting) = absurd cc
refuses bytes number broken (inr faulty) = faulty

-- a source that was read to its end gave a front of what was left
all_is_front : (bytes : List ℕ) (old new : SourceSeen) → ReadsAll script_limit old (Ok bytes) new → ReadsAll script_limit old (Err reading.NoMemory) new
all_is_front bytes old new read = λ is_told.
    let whole = read.1 is_told in
    (length bytes, omega (arith, read.0), record { front = bytes; bytes = rw whole.1 (sym whole.0 ∙ sym (append-nil bytes)); count = refl })

pub reads_script : (bytes : List ℕ) (old new : SourceSeen) (r : Result Script ToolError) → ReadsAll script_limit old (Ok bytes) new → ReadsBytes bytes r → ReadsScript old r new
reads_script bytes old new (Ok script) read means = record { bytes = bytes; read = read; means = means }
reads_script bytes old new (Err (error.Script number broken)) read faulty = record { bytes = bytes; read = read; faulty = faulty }
reads_script bytes old new (Err error.NoMemory) read none = all_is_front bytes old new read
reads_script bytes old new (Err e) read none = absurd none

-- the bytes that were read are no fault of the source
pub bytes_are_no_fault : (bytes : List ℕ) (before now : ℕ) (r : Result Script ToolError) → ReadsBytes bytes r → Counts false before now → Counts (is_read_fault r) before now
bytes_are_no_fault bytes before now (Ok script) means counts = counts
bytes_are_no_fault bytes before now (Err (error.Script number broken)) faulty counts = counts
bytes_are_no_fault bytes before now (Err error.NoMemory) none counts = counts
bytes_are_no_fault bytes before now (Err e) none counts = absurd none

-- nothing was read
pub none_read : (source : SourceSeen) → StopsScript source error.NoMemory source
none_read source = λ is_told. (0, omega arith, record { front = []; bytes = refl; count = refl })

-- ---- how the command ends

module _ (source source_after : SourceSeen) where
  -- nothing is written yet, and the source gave no script
  pub script_stops : (T : Type 0) (sink : SinkSeen) (e : ToolError) → StopsScript source e source_after → Counts (is_read_fault {T = T} (Err e)) source.count source_after.count
      → EndsReplay {T = T} source sink (Err e) source_after sink
  script_stops T sink error.NoMemory stops faults = ([], record { does = inl (refl, stops); faults = faults }, none_gained sink)
  script_stops T sink error.WriteFault stops faults = absurd stops
  script_stops T sink error.ReadFault stops faults = (record { does = (refl, stops); faults = faults }, none_gained sink)
  script_stops T sink error.ScriptTooLong stops faults = (record { does = (refl, stops); faults = faults }, none_gained sink)
  script_stops T sink (error.Script number broken) stops faults = (record { does = (refl, stops); faults = faults }, none_gained sink)
  script_stops T sink e stops faults = absurd stops

  module _ (script : Script) (given : GivesScript source script source_after) (faults : Counts false source.count source_after.count) where
    -- memory was wanting for the run
    pub run_stops : (T : Type 0) (sink : SinkSeen) → EndsReplay {T = T} source sink (Err error.NoMemory) source_after sink
    run_stops T sink = script_stops T sink error.NoMemory (all_is_front given.bytes source source_after given.read) faults

    -- the text of the run is written
    pub run_ends : {T : Type 0} (sink sink_after : SinkSeen) (run : Transcript) (result : Result T ToolError) → ∥ Replays prefs_basis script run ∥₁
        → WritesText (transcript.text run) sink result sink_after → EndsReplay source sink result source_after sink_after
    run_ends sink sink_after run result replays writes =
        let prints : PrintsRun source (transcript.text run) source_after =
        record { script = script; given = given; run = run; replays = replays; text_is = refl } in
        text_ends (λ answer text. AnswersScript source answer text source_after) (transcript.text run) sink sink_after result
        (record { does = prints; faults = faults }) (λ prefix rest parts. record { does = inr (transcript.text run, rest, prints, parts); faults = faults }) writes
