use Rattle.std.proofs.Common.{arith}
use Rattle.std.proofs.lemmas.Grind.{common_steps}
use Rattle.wire_codec.proofs.reader.WireReader.advance.Goals as goal

-- for must-fail fault_forgotten
pub returns-in-Err-clause-next : goal.returns-in-Err-clause-next
returns-in-Err-clause-next c = grind (arith, common_steps)
