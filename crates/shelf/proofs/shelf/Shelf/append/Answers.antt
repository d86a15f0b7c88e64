use Rattle.std.proofs.Common.{refl}
use Rattle.shelf.proofs.KeptLemmas.{kept_still, kept_fault, changed_stays, loosened_stays}
use Rattle.shelf.proofs.shelf.Shelf.append.Goals as goal

pub invariant_of-self : goal.invariant_of-self
invariant_of-self g c =
    let s = c.args.self.now in
    record { low_limit = s.low_limit; kept = kept_still _ _ _ _ _ _ _ _ _ _ s.ledger s.ledger (changed_stays _ _ _ _ _ _ _ c.in-Ok.ensures.tally _ c.in-Ok.ensures.ok) refl s.kept }

pub invariant_of-self-in-Err : goal.invariant_of-self-in-Err
invariant_of-self-in-Err g c =
    let s = c.args.self.now in
    let call = c.in-Err.ensures in
    record {
      low_limit = s.low_limit;
      kept = kept_fault _ _ _ _ _ _ _ _ _ _ s.ledger c.add_fault.new.self _ _ _ _ c.add_fault.ensures.entry (loosened_stays _ _ _ _ _ _ _ call.tally call.err) c.faults.ensures.count call.tally.counts.cause c.requires.lawful s.kept;
    }
