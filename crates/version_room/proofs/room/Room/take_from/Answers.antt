use Rattle.std.proofs.Common.{rules, Some}
use Rattle.version_room.proofs.Calls.{carries}
use Rattle.version_room.proofs.Lawfully.{same_lawful}
use Rattle.version_room.proofs.room.Room.take_from.Goals as goal

pub exchange-requires : goal.exchange-requires
exchange-requires g c = let s = c.requires.state in (search rules, (Some s.0, carries g.S.Listed.meaning _ _ s.1))

pub invariant_of-pass-clause-lawful : goal.invariant_of-pass-clause-lawful
invariant_of-pass-clause-lawful g c = same_lawful g.S.Listed.meaning (c.args.pass.now.seat.me.0, _) c.exchange.new.seat.me c.exchange.ensures.3 c.args.pass.now.lawful
