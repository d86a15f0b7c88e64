use Rattle.std.proofs.Common.{arith}
use Rattle.std.proofs.lemmas.Grind.{common_steps}
use Rattle.prefs_edit.proofs.kinds.bool_at.Goals as goal

-- for must-fail missing_bool_counts_as_true
pub returns-in-None : goal.returns-in-None
returns-in-None c = grind (arith, common_steps)
