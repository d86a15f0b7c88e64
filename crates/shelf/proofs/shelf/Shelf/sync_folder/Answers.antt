use Rattle.shelf.specs.Rules.{rules_of}
use Rattle.shelf.proofs.EndingLemmas.{synced_plain, synced_weighs}
use Rattle.shelf.proofs.KeptLemmas.{kept_kinds, kept_fault, synced_stays, equal_stays}
use Rattle.shelf.proofs.shelf.Shelf.sync_folder.Goals as goal

pub invariant_of-self : goal.invariant_of-self
invariant_of-self g c =
    let s = c.args.self.now in
    let call = c.in-Ok.ensures in
    record {
      low_limit = s.low_limit;
      kept = kept_kinds _ _ _ _ _ _ _ _ _ _ s.ledger c.add_synced.new.ledger _ _ _ _ _ c.add_synced.ensures (synced_stays _ _ _ _ _ _ _ call.tally call.ok) (synced_plain _ c.args.same) c.requires.lawful (synced_weighs (rules_of g.P.T.Transform.after g.P.T.Transform.weight_of (g.P.C.Codec.encoded s.codec) (g.P.C.Codec.reads s.codec) (g.P.C.Codec.default_of s.codec)) c.args.same) s.kept;
    }

pub invariant_of-self-in-Err : goal.invariant_of-self-in-Err
invariant_of-self-in-Err g c =
    let s = c.args.self.now in
    let call = c.in-Err.ensures in
    record {
      low_limit = s.low_limit;
      kept = kept_fault _ _ _ _ _ _ _ _ _ _ s.ledger c.add_fault.new.self _ _ _ _ c.add_fault.ensures.entry (equal_stays _ _ _ _ _ _ _ call.tally call.err) c.faults.ensures.count call.tally.counts.cause c.requires.fault s.kept;
    }
