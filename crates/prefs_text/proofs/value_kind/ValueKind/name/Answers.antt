use Rattle.std.proofs.Common.{arith}
use Rattle.std.proofs.lemmas.Grind.{common_steps}
use Rattle.prefs_text.proofs.value_kind.ValueKind.name.Goals as goal

-- for must-fail kinds_are_mixed
pub returns-in-Int : goal.returns-in-Int
returns-in-Int c = grind (arith, common_steps)
