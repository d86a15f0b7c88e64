use Rattle.std.proofs.Common.{arith}
use Rattle.std.proofs.lemmas.Grind.{common_steps}
use Rattle.prefs_edit.proofs.weight.weight_with.Goals as goal

-- for must-fail weight_forgets_the_key
pub returns : goal.returns
returns c = grind (arith, common_steps)
