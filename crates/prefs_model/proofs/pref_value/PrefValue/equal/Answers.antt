use Rattle.std.proofs.Common.{arith}
use Rattle.std.proofs.lemmas.Grind.{common_steps}
use Rattle.prefs_model.proofs.pref_value.PrefValue.equal.Goals as goal

-- for must-fail kinds_are_mixed
pub returns-in_default : goal.returns-in_default
returns-in_default c = grind (arith, common_steps)
