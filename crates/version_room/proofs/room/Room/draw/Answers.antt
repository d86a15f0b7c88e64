use Rattle.std.proofs.Common.{rules, ap, ◌∙◌, arith, refl}
use Rattle.version_room.proofs.Calls.{drew}
use Rattle.version_room.proofs.Drawing.{draws_keeps}
use Rattle.version_room.proofs.Lawfully.{drawn_lawful}
use Rattle.version_room.proofs.room.Room.draw.Goals as goal

pub compare_exchange-found-requires : goal.compare_exchange-found-requires
compare_exchange-found-requires g c = (search rules, search rules, draws_keeps _ _ _ _ c.loop.pass.seat.me _ _ (ap (λ me. me.0.stage) c.loop.invariant.3 ∙ c.requires.1) refl (omega arith))

pub returns-then-found-ticket-clause-waiting : goal.returns-then-found-ticket-clause-waiting
returns-then-found-ticket-clause-waiting g c = drew g.S.Listed.meaning _ _ _ _ _ c.loop.invariant.3 c.if-found-ticket.true c.compare_exchange-found.ensures.2

pub invariant_of-pass-clause-lawful : goal.invariant_of-pass-clause-lawful
invariant_of-pass-clause-lawful g c = drawn_lawful g.S.Listed.meaning _ c.loop.pass.seat.me _ _ c.compare_exchange-found.ensures.2 c.loop.pass.lawful
