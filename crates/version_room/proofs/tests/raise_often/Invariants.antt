use Rattle.hist_journal.specs.ListedJournal.{journal_meaning}
use Rattle.version_room.specs.Known.{HasClients}
use Rattle.version_room.specs.Seats.{IsOf, known}
use Rattle.version_room.proofs.tests.raise_often.Given as goal

abbrev pub invariant-loop : goal.invariant-loop
invariant-loop g l = IsOf journal_meaning l.initial.room l.pass.seat × HasClients (known l.pass.seat) (known l.initial.pass.seat).low (known l.initial.pass.seat).high
