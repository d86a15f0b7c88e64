use Rattle.replay_run.proofs.exists.RunExists.{run_is}
use Rattle.replay_run.proofs.laws.scripts_have_a_run.Goals as goal

pub returns : goal.returns
returns c script kept typed none = run_is script kept typed none
