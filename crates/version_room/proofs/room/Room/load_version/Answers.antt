use Rattle.std.proofs.Common.{rules, ap}
use Rattle.version_room.proofs.Outside.{loads_keeps}
use Rattle.version_room.proofs.Lawfully.{still_lawful}
use Rattle.version_room.proofs.room.Room.load_version.Goals as goal

pub load-requires : goal.load-requires
load-requires g c = (search rules, search rules, loads_keeps _ _ _ _ _ c.requires.rests.0)

pub invariant_of-pass-clause-lawful : goal.invariant_of-pass-clause-lawful
invariant_of-pass-clause-lawful g c = let e = c.load.ensures.2.0 in still_lawful g.S.Listed.meaning c.args.pass.now.seat.me.0 c.load.new.seat.me.0 (ap (λ me. me.0.head) e) (ap (λ me. me.0.own.seen) e) c.args.pass.now.lawful
