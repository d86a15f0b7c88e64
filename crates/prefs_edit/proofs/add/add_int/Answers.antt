use Rattle.std.proofs.Common.{arith}
use Rattle.std.proofs.lemmas.Grind.{common_steps}
use Rattle.prefs_edit.specs.Step.{after_step}
use Rattle.prefs_edit.proofs.add.add_int.Goals as goal

-- for must-fail int_wraps_round
pub returns-clause-changed : goal.returns-clause-changed
unfolding after_step
returns-clause-changed c = grind (arith, common_steps)
