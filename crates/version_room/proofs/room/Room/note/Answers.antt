use Rattle.std.proofs.Common.{rules, ap}
use Rattle.version_room.proofs.Sharing.{tells_keeps}
use Rattle.version_room.proofs.Lawfully.{same_lawful, still_lawful}
use Rattle.version_room.proofs.room.Room.note.Goals as goal

pub split_seat-requires : goal.split_seat-requires
split_seat-requires g c = let of = c.requires in (of.table, search rules, tells_keeps _ _ _ _ of.rests.0)

pub invariant_of-pass-clause-lawful : goal.invariant_of-pass-clause-lawful
invariant_of-pass-clause-lawful g c = same_lawful g.S.Listed.meaning _ _ c.split_seat.ensures.2 c.args.pass.now.lawful

pub invariant_of-result : goal.invariant_of-result
invariant_of-result g c = let e = c.split_seat.ensures.4 in record { lawful = still_lawful g.S.Listed.meaning c.args.pass.now.seat.me.0 c.split_seat.result.me.0 (ap (λ me. me.0.head) e) (ap (λ me. me.0.own.seen) e) c.args.pass.now.lawful }
