use Rattle.replay_run.proofs.truth.RunsAreGood.{runs_good}
use Rattle.replay_run.proofs.laws.runs_are_good.Goals as goal

pub returns : goal.returns
returns c script transcript kept typed run = runs_good script transcript kept typed run
