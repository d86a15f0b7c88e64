use Rattle.std.proofs.Common.{arith}
use Rattle.std.proofs.lemmas.Grind.{common_steps}
use Rattle.prefs_edit.specs.Step.{after_step}
use Rattle.prefs_edit.proofs.toggle.toggle.Goals as goal

-- for must-fail stops_at_no_refusal
pub returns-in_default-clause-changed : goal.returns-in_default-clause-changed
unfolding after_step
returns-in_default-clause-changed c = grind (arith, common_steps)
