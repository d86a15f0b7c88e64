use Rattle.std.proofs.Common.{arith}
use Rattle.std.proofs.lemmas.Grind.{common_steps}
use Rattle.hist_journal.proofs.journal.Journal.push.Goals as goal

-- for must-fail push_adds_nothing
pub returns-clause-list : goal.returns-clause-list
returns-clause-list g c = grind (arith, common_steps)

-- for must-fail push_forgets_weight
pub returns-clause-weight : goal.returns-clause-weight
returns-clause-weight g c = grind (arith, common_steps)

-- for must-fail push_keeps_room
pub returns-clause-room : goal.returns-clause-room
returns-clause-room g c = grind (arith, common_steps)
