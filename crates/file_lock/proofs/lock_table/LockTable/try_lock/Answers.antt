use Rattle.std.proofs.Common.{arith}
use Rattle.std.proofs.lemmas.Grind.{common_steps}
use Rattle.file_lock.proofs.lock_table.LockTable.try_lock.Goals as goal

-- for must-fail owner_is_refused
pub returns-then-is_some_and-clause-refused : goal.returns-then-is_some_and-clause-refused
returns-then-is_some_and-clause-refused c = grind (arith, common_steps)

-- for must-fail another_is_let_in
pub returns-clause-refused : goal.returns-clause-refused
returns-clause-refused c = grind (arith, common_steps)

-- for must-fail lock_not_taken
pub returns-clause-taken : goal.returns-clause-taken
returns-clause-taken c = grind (arith, common_steps)
