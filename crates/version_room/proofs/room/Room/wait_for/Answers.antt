use Rattle.std.proofs.Common.{rules, ap, ◌∙◌}
use Rattle.version_room.proofs.Calls.{looks_as, entered, entered_not}
use Rattle.version_room.proofs.Lawfully.{looked_lawful, looked_numbers}
use Rattle.version_room.proofs.room.Room.wait_for.Goals as goal

pub load-served-requires : goal.load-served-requires
load-served-requires g c = let q = c.requires.waiting in (search rules, search rules, looks_as _ _ _ _ _ _ _ c.loop.invariant.3 q.0 q.1 c.args.pass.now.numbers)

pub returns-then-served-ticket-clause-entered : goal.returns-then-served-ticket-clause-entered
returns-then-served-ticket-clause-entered g c = entered g.S.Listed.meaning c.args.pass.now.seat.me c.loop.pass.seat.me c.load-served.new.seat.me _ _ c.loop.invariant.3 c.if-served-ticket.true c.requires.waiting.0 c.load-served.ensures.2

pub loop-preserved : goal.loop-preserved
loop-preserved g c =
    let e = c.load-served.ensures in
    let i = c.loop.invariant in
    let same = entered_not g.S.Listed.meaning c.args.pass.now.seat.me c.loop.pass.seat.me c.load-served.new.seat.me _ _ i.3 c.if-served-ticket.false c.requires.waiting.0 e.2 in
    (search rules, search rules, (e.0 ∙ i.2.0, e.1 ∙ i.2.1), same)

pub invariant_of-pass-clause-lawful : goal.invariant_of-pass-clause-lawful
invariant_of-pass-clause-lawful g c =
    let i = c.loop.invariant in
    looked_lawful g.S.Listed.meaning _ c.loop.pass.seat.me c.load-served.new.seat.me (c.load-served.ensures.2 c.args.ticket (ap (λ me. me.0.stage) i.3 ∙ c.requires.waiting.0)) c.loop.pass.lawful

pub invariant_of-pass-clause-numbers : goal.invariant_of-pass-clause-numbers
invariant_of-pass-clause-numbers g c =
    let i = c.loop.invariant in
    looked_numbers g.S.Listed.meaning _ c.loop.pass.seat.me c.load-served.new.seat.me (c.load-served.ensures.2 c.args.ticket (ap (λ me. me.0.stage) i.3 ∙ c.requires.waiting.0)) c.loop.pass.numbers
