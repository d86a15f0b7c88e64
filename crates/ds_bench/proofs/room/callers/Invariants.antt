use Rattle.std.proofs.Common.{◌≡◌, [], None}
use Rattle.hist_journal.specs.ListedJournal.{journal_meaning}
use Rattle.version_room.specs.Known.{HasClients, all_clients}
use Rattle.version_room.specs.Seats.{IsOf, known}
use Rattle.ds_bench.proofs.room.callers.Given as goal

abbrev pub invariant-loop-client : goal.invariant-loop-client
invariant-loop-client l =
    IsOf journal_meaning l.initial.room l.pass.seat × HasClients (known l.pass.seat) l.client all_clients
    × ((known l.pass.seat).mine ≡ []) × ((known l.pass.seat).held ≡ None)
