use Rattle.std.proofs.Common.{refl}
use Rattle.shelf.proofs.KeptLemmas.{kept_still, roomier_stays}
use Rattle.shelf.proofs.shelf.Shelf.make_plan.Goals as goal

pub invariant_of-self : goal.invariant_of-self
invariant_of-self g c =
    let s = c.args.self.now in
    record { low_limit = s.low_limit; kept = kept_still _ _ _ _ _ _ _ _ _ _ s.ledger s.ledger (roomier_stays _ _ _ _ _ c.make_room.ensures.contents c.make_room.ensures.tally) refl s.kept }
