use Rattle.prefs_tool.proofs.ReplayCauses.{done_is_printed}
use Rattle.prefs_tool.proofs.laws.replay_prints_the_run.Goals as goal

pub returns : goal.returns
returns c = done_is_printed
