use Rattle.std.proofs.Common.{rules, ◌∙◌, ap, Some}
use Rattle.std.proofs.lemmas.List.Elements.{All-pop}
use Rattle.version_room.specs.Seats.{IsOf}
use Rattle.version_room.proofs.Gathering.{one_more}
use Rattle.version_room.proofs.Joining.{gathers_keeps}
use Rattle.version_room.proofs.room.Room.gather.Goals as goal

pub join_seat-requires : goal.join_seat-requires
join_seat-requires g c =
    let i = c.loop-pass.invariant in
    let other = (All-pop (λ other. IsOf g.S.Listed.meaning c.args.self.now other.seat) _ _ (Some c.in-Some.pass) c.in-Some.ensures.items i.3).1 in
    (i.0.0 ∙ c.requires.0.table, other.table, other.rests.1, search rules, gathers_keeps _ _ _ _ _ _ i.1.0 other.rests.0)

pub loop-pass-preserved : goal.loop-pass-preserved
loop-pass-preserved g c =
    let i = c.loop-pass.invariant in
    let e = c.join_seat.ensures in
    let me = e.2 in (
      (e.0 ∙ i.0.0, e.1 ∙ i.0.1),
      (ap (λ m. m.0.stage) me ∙ i.1.0, ap (λ m. m.1) me ∙ i.1.1),
      ap (λ m. m.0.own) me ∙ i.2,
      (All-pop (λ other. IsOf g.S.Listed.meaning c.args.self.now other.seat) _ _ (Some c.in-Some.pass) c.in-Some.ensures.items i.3).0,
      rw (ap (λ m. m.0.gathered) me) (one_more _ _ c.in-Some.pass _ _ c.in-Some.ensures.items i.4),
    )
