use Rattle.std.proofs.Common.{arith}
use Rattle.std.proofs.lemmas.Grind.{common_steps}
use Rattle.hist_journal.proofs.journal.Journal.reserve.Goals as goal

-- for must-fail reserve_refuses_early
pub returns-then-entries-self-clause-err : goal.returns-then-entries-self-clause-err
returns-then-entries-self-clause-err g c = grind (arith, common_steps)

-- for must-fail reserve_refuses_late, weight_bound_ignored
pub returns-clause-ok : goal.returns-clause-ok
returns-clause-ok g c = grind (arith, common_steps)
