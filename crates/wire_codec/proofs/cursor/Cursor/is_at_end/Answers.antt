use Rattle.std.proofs.Common.{arith}
use Rattle.std.proofs.lemmas.Grind.{common_steps}
use Rattle.wire_codec.proofs.cursor.Cursor.is_at_end.Goals as goal

-- for must-fail stops_one_byte_early
pub returns-clause-end : goal.returns-clause-end
returns-clause-end c = grind (arith, common_steps)
