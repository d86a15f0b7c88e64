use Rattle.std.proofs.Common.{arith}
use Rattle.std.proofs.lemmas.Grind.{common_steps}
use Rattle.prefs_proto.proofs.draft.into_run.Goals as goal

-- for must-fail last_set_replaces_the_run
pub returns-in-Run : goal.returns-in-Run
returns-in-Run c = grind (arith, common_steps)
