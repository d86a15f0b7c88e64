-- The lines of the first answers are passed on.
use Rattle.std.proofs.Common.{◌≡◌, IsTrue, string_bytes, take}
use Rattle.std.specs.List.{flat_map}
use Rattle.prefs_text.specs.AnswerText.{answer_text}
use Rattle.prefs_text.specs.AnswerView.{line_seen}
use Rattle.script_lang.specs.Gathering.{PassesOn}
use Rattle.script_lang.specs.TranscriptText.{line}
use Rattle.script_lang.proofs.transcripts.writing.lists.write_answers.Given as goal

abbrev pub invariant-loop-answer : goal.invariant-loop-answer
invariant-loop-answer g l = record {
  sound : g.K.Sink.count l.sink ≡ g.K.Sink.count l.initial.sink;
  passed : IsTrue g.K.Sink.told
      → PassesOn (flat_map (λ answer. line (answer_text l.names (line_seen answer))) (take l.answer-index l.answers))
      (g.K.Sink.held l.initial.sink) (string_bytes l.initial.gathered) (g.K.Sink.held l.sink) (string_bytes l.gathered);
}
