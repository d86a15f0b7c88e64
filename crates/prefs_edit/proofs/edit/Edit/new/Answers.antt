use Rattle.std.proofs.Common.{arith}
use Rattle.std.proofs.lemmas.Grind.{common_steps}
use Rattle.prefs_edit.proofs.edit.Edit.new.Goals as goal

-- for must-fail greatest_weight_refused
pub returns-then-weight-from-clause-refused : goal.returns-then-weight-from-clause-refused
returns-then-weight-from-clause-refused c = grind (arith, common_steps)
