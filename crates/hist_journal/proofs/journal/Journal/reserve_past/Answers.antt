use Rattle.std.proofs.Common.{arith}
use Rattle.std.proofs.lemmas.Grind.{common_steps}
use Rattle.hist_journal.proofs.journal.Journal.reserve_past.Goals as goal

-- for must-fail room_is_lowered
pub returns-in_ok-reserve-clause-room : goal.returns-in_ok-reserve-clause-room
returns-in_ok-reserve-clause-room g c = grind (arith, common_steps)
