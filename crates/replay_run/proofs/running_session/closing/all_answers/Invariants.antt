-- The answers of the clients so far.
use Rattle.std.proofs.Common.{◌≡◌, flat_map, map}
use Rattle.prefs_text.specs.AnswerView.{line_seen}
use Rattle.replay_run.specs.SessionView.{client_seen}
use Rattle.replay_run.proofs.running_session.closing.all_answers.Given as goal

abbrev pub invariant-loop-client : goal.invariant-loop-client
invariant-loop-client l = map line_seen l.lines.items ≡ flat_map (λ client. (client_seen client).answered) l.yielded
