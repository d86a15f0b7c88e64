use Rattle.std.proofs.Common.{arith}
use Rattle.std.proofs.lemmas.Grind.{common_steps}
use Rattle.prefs_proto.proofs.prefs_codec.settle.Goals as goal

-- for must-fail unset_value_accepted
pub returns-in-Ok-Err : goal.returns-in-Ok-Err
returns-in-Ok-Err c = grind (arith, common_steps)
