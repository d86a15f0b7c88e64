use Rattle.std.proofs.Common.{rules, ap, ◌∙◌, sym}
use Rattle.version_room.specs.Views.{after_learning}
use Rattle.version_room.proofs.Joining.{told_keeps}
use Rattle.version_room.proofs.Outside.{learns_keeps}
use Rattle.version_room.proofs.Lawfully.{same_lawful, learned_lawful}
use Rattle.version_room.proofs.room.Room.learn.Goals as goal

pub join_seat-requires : goal.join_seat-requires
join_seat-requires g c = let q = c.requires in (q.pass.table, q.note.table, q.note.rests.1, search rules, told_keeps _ _ _ _ _ _ q.pass.rests.0 q.note.rests.0)

pub load-requires : goal.load-requires
load-requires g c = let e = c.join_seat.ensures in let q = c.requires.pass in (e.0 ∙ q.table, search rules, learns_keeps _ _ _ _ _ (ap (λ me. me.0.stage) e.2 ∙ q.rests.0))

pub invariant_of-pass-clause-lawful : goal.invariant_of-pass-clause-lawful
invariant_of-pass-clause-lawful g c =
    let q = c.requires in
    let v = c.args.pass.now.seat.me.0 in
    let w = c.args.note.seat.me.0 in
    let e = c.load.ensures.2.0 ∙ ap (λ me. (after_learning me.0, me.1)) c.join_seat.ensures.2 in
    same_lawful g.S.Listed.meaning _ c.load.new.seat.me e (learned_lawful g.S.Listed.meaning v w (q.pass.head ∙ sym q.note.head) c.args.pass.now.lawful c.args.note.lawful)
