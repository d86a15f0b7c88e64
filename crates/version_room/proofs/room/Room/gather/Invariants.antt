use Rattle.std.proofs.Common.{◌≡◌, ◌++◌, All}
use Rattle.version_room.specs.Closing.{all_known}
use Rattle.version_room.specs.Seats.{IsOf, IsSame, Rests, known}
use Rattle.version_room.proofs.room.Room.gather.Given as goal

abbrev pub invariant-loop-pass : goal.invariant-loop-pass
invariant-loop-pass g l =
    IsSame l.initial.seat l.seat × Rests l.seat.me × (known l.seat ≡ known l.initial.seat)
    × All (λ other. IsOf g.S.Listed.meaning l.initial.self other.seat) l.rest.items × (all_known l.rest.items ++ l.seat.me.0.gathered ≡ all_known l.initial.rest.items)

abbrev pub decreases-loop-pass : goal.decreases-loop-pass
decreases-loop-pass g l = goal.left-loop-pass g l
