use Rattle.std.proofs.Common.{rules, refl}
use Rattle.version_room.proofs.Calls.{closes_as, closed_at}
use Rattle.version_room.proofs.room.Room.close.Goals as goal

pub unwrap-requires : goal.unwrap-requires
unwrap-requires g c =
    let s = c.gather.ensures in
    let f = closes_as g.S.Listed.meaning _ _ _ _ _ _ _ _ s.same.1.0 s.pass s.all c.requires.clients c.close_with-closed.ensures.values.2 c.take-state.ensures.value in
    rw f.1 refl

pub returns : goal.returns
returns g c =
    let s = c.gather.ensures in
    let f = closes_as g.S.Listed.meaning _ _ _ _ _ _ _ _ s.same.1.0 s.pass s.all c.requires.clients c.close_with-closed.ensures.values.2 c.take-state.ensures.value in
    let r = closed_at g.S.Listed.meaning _ _ _ _ c.unwrap.result f (search rules) in
    record { head = r.0; pass = r.1; rest = r.2 }
