use Rattle.std.proofs.Common.{◌≡◌}
use Rattle.version_room.specs.Seats.{IsSame}
use Rattle.version_room.proofs.room.Room.wait_for.Given as goal

abbrev pub invariant-loop : goal.invariant-loop
invariant-loop g l =
    (goal.iterator-loop g).can_next l.iterator' × (goal.iterator-loop g).is_finite l.iterator'
    × IsSame l.initial.pass.seat l.pass.seat × (l.pass.seat.me ≡ l.initial.pass.seat.me)
