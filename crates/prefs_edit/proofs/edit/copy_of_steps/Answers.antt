use Rattle.std.proofs.Common.{arith}
use Rattle.std.proofs.lemmas.Grind.{common_steps}
use Rattle.prefs_edit.proofs.edit.copy_of_steps.Goals as goal

-- for must-fail copy_has_other_steps
pub loop-step-preserved : goal.loop-step-preserved
loop-step-preserved c = grind (arith, common_steps)
