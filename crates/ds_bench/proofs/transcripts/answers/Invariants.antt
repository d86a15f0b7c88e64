-- Whoever the answers so far name has a name.
use Rattle.std.specs.Prelude.{All, map}
use Rattle.prefs_text.specs.AnswerText.{AnswerHasNames}
use Rattle.prefs_text.specs.AnswerView.{line_seen}
use Rattle.ds_bench.proofs.transcripts.answers.Given as goal

abbrev pub invariant-loop-number : goal.invariant-loop-number
invariant-loop-number l = All (AnswerHasNames l.names) (map line_seen l.lines.items)
