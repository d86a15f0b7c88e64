use Rattle.std.proofs.Common.{rules, ap}
use Rattle.version_room.proofs.Sharing.{shares_keeps}
use Rattle.version_room.proofs.Lawfully.{still_lawful}
use Rattle.version_room.proofs.room.Room.new_pass.Goals as goal

pub split_seat-requires : goal.split_seat-requires
split_seat-requires g c = let of = c.requires.room in (of.table, search rules, shares_keeps _ _ _ _ of.rests.0 of.alone c.requires.number)

pub invariant_of-from-clause-lawful : goal.invariant_of-from-clause-lawful
invariant_of-from-clause-lawful g c = let e = c.split_seat.ensures.2 in still_lawful g.S.Listed.meaning c.args.from.now.seat.me.0 c.split_seat.new.seat.me.0 (ap (λ me. me.0.head) e) (ap (λ me. me.0.own.seen) e) c.args.from.now.lawful

pub invariant_of-result-clause-lawful : goal.invariant_of-result-clause-lawful
invariant_of-result-clause-lawful g c = let e = c.split_seat.ensures.4 in still_lawful g.S.Listed.meaning c.args.from.now.seat.me.0 c.split_seat.result.me.0 (ap (λ me. me.0.head) e) (ap (λ me. me.0.own.seen) e) c.args.from.now.lawful
