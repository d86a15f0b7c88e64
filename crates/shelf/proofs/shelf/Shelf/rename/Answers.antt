use Rattle.shelf.proofs.KeptLemmas.{kept_change, kept_fault, renamed_starts, equal_stays}
use Rattle.shelf.proofs.shelf.Shelf.rename.Goals as goal

pub invariant_of-self : goal.invariant_of-self
invariant_of-self g c =
    let s = c.args.self.now in
    let call = c.in-Ok.ensures in
    record {
      low_limit = s.low_limit;
      kept =
          kept_change _ _ _ _ _ _ _ _ _ _ s.ledger c.add.new.self _ _ _ _ _ c.add.ensures (renamed_starts _ _ _ _ _ _ _ call.tally call.ok) _ c.requires.change c.requires.lawful c.requires.writes call.main c.weight_of-weight.ensures s.kept;
    }

pub invariant_of-self-in-Err : goal.invariant_of-self-in-Err
invariant_of-self-in-Err g c =
    let s = c.args.self.now in
    let call = c.in-Err.ensures in
    record {
      low_limit = s.low_limit;
      kept = kept_fault _ _ _ _ _ _ _ _ _ _ s.ledger c.add_fault.new.self _ _ _ _ c.add_fault.ensures.entry (equal_stays _ _ _ _ _ _ _ call.tally call.err) c.faults.ensures.count call.tally.counts.cause c.requires.fault s.kept;
    }
