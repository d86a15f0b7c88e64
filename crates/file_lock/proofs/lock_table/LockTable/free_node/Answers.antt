use Rattle.std.proofs.Common.{arith}
use Rattle.std.proofs.lemmas.Grind.{common_steps}
use Rattle.file_lock.proofs.lock_table.LockTable.free_node.Goals as goal

-- for must-fail every_node_is_freed
pub returns-then-is_some_and : goal.returns-then-is_some_and
returns-then-is_some_and c = grind (arith, common_steps)
