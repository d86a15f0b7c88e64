use Rattle.std.proofs.Common.{arith}
use Rattle.std.proofs.lemmas.Grind.{common_steps}
use Rattle.prefs_text.proofs.read.content_value.Goals as goal

-- for must-fail no_memory_for_scalars
pub returns-in_default-clause-err : goal.returns-in_default-clause-err
returns-in_default-clause-err c = grind (arith, common_steps)
