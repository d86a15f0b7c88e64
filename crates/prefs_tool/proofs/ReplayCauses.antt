-- What the source gave decides how `replay` ends, unless something failed or memory was wanting.
use Rattle.std.proofs.Common.{◌≡◌, ◌∙◌, ◌⊎◌, ◌++◌, ◌≤◌, ◌+◌, inl, inr, ℕ, IsTrue, Result, Ok, Err, List, length, refl, sym, ap, subst, arith}
use Rattle.std.proofs.lemmas.List.{length-append}
use Rattle.byte_io.specs.ReadAll.{TakesFront}
use Rattle.byte_io.specs.Seen.{SinkSeen, SourceSeen}
use Rattle.command_words.specs.declared.command.Command.TheVariants.{Replay}
use Rattle.script_lang.specs.Meaning.{Faulty, Means}
use Rattle.script_lang.specs.declared.plan.mode.Mode.TheVariants as mode
use Rattle.script_lang.specs.declared.plan.script.Script.{Script}
use Rattle.script_lang.proofs.ScriptLaws.{no_fault}
use Rattle.prefs_tool.specs.Complete.{AreSound, IsDone, IsScript}
use Rattle.prefs_tool.specs.Outcome.{Reports}
use Rattle.prefs_tool.specs.Replaying.{AnswersScript, Printed, PrintsRun, Replayed, script_limit}
use Rattle.prefs_tool.specs.Status.{status_after}
use Rattle.prefs_tool.specs.declared.status.Status.{Status}
use Rattle.prefs_tool.specs.declared.status.Status.TheVariants as ended
use Rattle.prefs_tool.specs.declared.tool_error.ToolError.{ToolError}
use Rattle.prefs_tool.specs.declared.tool_error.ToolError.TheVariants as error

-- of what is within the limit not more can be taken
not_past : (old new : List ℕ) → length old ≤ script_limit → TakesFront (script_limit + 1) old new → ⊥
not_past old new short takes =
    let all : length old ≡ length takes.front + length new = ap length takes.bytes ∙ length-append takes.front new in
    omega (arith, short, takes.count)

module _ (source source_after : SourceSeen) (sink sink_after : SinkSeen) (sound : AreSound source source_after sink sink_after) where
  -- the status is the answer's, since no write failed
  told_status : (answer : Result (Unit {0}) ToolError) (text : List ℕ) (status : Status) → Reports answer text status sink sink_after → status ≡ status_after answer
  told_status answer text status (inl all) = all.0
  told_status answer text status (inr failed) = absurd (sound.sink_sound failed.1.rose)

  -- ---- bytes that are a script

  script_answered : (answer : Result (Unit {0}) ToolError) (text : List ℕ) (script : Script) → IsScript source.left script
      → AnswersScript source answer text source_after → IsDone Replay (status_after answer)
  script_answered (Ok done) text script is answered = tt
  script_answered (Err error.NoMemory) text script is answered = tt
  script_answered (Err (error.Script number broken)) text script is answered =
      let none = answered.does.1 in
      let faulty = subst (λ (bytes : List ℕ). Faulty mode.Replay bytes number broken) (none.read.1 sound.told).0 none.faulty in
      absurd (no_fault mode.Replay source.left script number broken is.means faulty)
  script_answered (Err error.ScriptTooLong) text script is answered = absurd (not_past source.left source_after.left is.short (answered.does.1.1 sound.told))
  script_answered (Err error.ReadFault) text script is answered = absurd (sound.source_sound answered.faults.cause)
  script_answered (Err e) text script is answered = absurd answered.does.1

  pub script_is_replayed : (script : Script) (status : Status) → Replayed source sink status source_after sink_after → IsScript source.left script → IsDone Replay status
  script_is_replayed script status ends is =
      subst (IsDone Replay) (sym (told_status ends.answer ends.text status ends.reports)) (script_answered ends.answer ends.text script is ends.answered)

  -- ---- other bytes

  others_answered : (answer : Result (Unit {0}) ToolError) (text : List ℕ) → ((script : Script) → IsScript source.left script → ⊥)
      → AnswersScript source answer text source_after → (status_after answer ≡ ended.Script) ⊎ (status_after answer ≡ ended.NoMemory)
  others_answered (Ok done) text none answered =
      let given = answered.does.given in
      let whole = (given.read.1 sound.told).0 in
      absurd (none answered.does.script (subst (λ (bytes : List ℕ). IsScript bytes answered.does.script) whole (record { means = given.means; short = given.read.0 })))
  others_answered (Err error.NoMemory) text none answered = inr refl
  others_answered (Err (error.Script number broken)) text none answered = inl refl
  others_answered (Err error.ScriptTooLong) text none answered = inl refl
  others_answered (Err error.ReadFault) text none answered = absurd (sound.source_sound answered.faults.cause)
  others_answered (Err e) text none answered = absurd answered.does.1

  pub others_are_refused : (status : Status) → Replayed source sink status source_after sink_after → ((script : Script) → IsScript source.left script → ⊥)
      → (status ≡ ended.Script) ⊎ (status ≡ ended.NoMemory)
  others_are_refused status ends none =
      subst (λ (s : Status). (s ≡ ended.Script) ⊎ (s ≡ ended.NoMemory)) (sym (told_status ends.answer ends.text status ends.reports))
      (others_answered ends.answer ends.text none ends.answered)

-- ---- all went well

-- no error has the status of what went well
other_status : (e : ToolError) → ended.Done ≡ status_after {T = Unit {0}} (Err e) → ⊥
other_status error.Words same = cc
other_status (error.Script number broken) same = cc
other_status error.ScriptTooLong same = cc
other_status error.Storage same = cc
other_status error.Corrupt same = cc
other_status (error.TooLong len) same = cc
other_status error.EditTooLong same = cc
other_status (error.ValueTooLong len) same = cc
other_status error.ReadFault same = cc
other_status error.WriteFault same = cc
other_status error.NoMemory same = cc
other_status error.NoKey same = cc

module _ (source source_after : SourceSeen) (sink sink_after : SinkSeen) (source_told : IsTrue source.told) (sink_told : IsTrue sink.told) where
  printed : (text : List ℕ) → PrintsRun source text source_after → sink_after.held ≡ sink.held ++ text → Printed source sink source_after sink_after
  printed text prints gains =
      let whole = prints.given.read.1 source_told in
      record {
        script = prints.script;
        means = subst (λ (bytes : List ℕ). Means mode.Replay bytes prints.script) whole.0 prints.given.means;
        run = prints.run;
        replays = prints.replays;
        read = whole.1;
        printed = gains ∙ ap (λ (t : List ℕ). sink.held ++ t) prints.text_is;
      }

  done_answer : (answer : Result (Unit {0}) ToolError) (text : List ℕ) → AnswersScript source answer text source_after
      → Reports answer text ended.Done sink sink_after → Printed source sink source_after sink_after
  done_answer (Ok done) text answered (inl all) = printed text answered.does (all.1.gained sink_told)
  done_answer (Err e) text answered (inl all) = absurd (other_status e all.0)
  done_answer answer text answered (inr failed) = absurd cc

  pub done_is_printed : Replayed source sink ended.Done source_after sink_after → Printed source sink source_after sink_after
  done_is_printed ends = done_answer ends.answer ends.text ends.answered ends.reports
