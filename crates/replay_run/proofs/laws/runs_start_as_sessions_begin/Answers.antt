use Rattle.replay_run.proofs.keeping.StepsKeep.{starts_begin}
use Rattle.replay_run.proofs.laws.runs_start_as_sessions_begin.Goals as goal

pub returns : goal.returns
returns c s tally counted = starts_begin s tally counted
