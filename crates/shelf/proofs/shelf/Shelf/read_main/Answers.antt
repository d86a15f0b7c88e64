use Rattle.std.proofs.Math.Logic.{∥∥₁_elim}
use Rattle.shelf.proofs.BaseSets.{base_set}
use Rattle.shelf.proofs.KeptLemmas.{kept_still, kept_fault, equal_stays}
use Rattle.shelf.proofs.ReadingLemmas.{value_is, decoded_is, read_fits, some_is_prop, too_long_reads}
use Rattle.shelf.proofs.shelf.Shelf.read_main.Goals as goal

pub invariant_of-self-in-Ok-1 : goal.invariant_of-self-in-Ok-1
invariant_of-self-in-Ok-1 g c =
    let s = c.args.self.now in
    let call = c.in-Ok.ensures in
    record { low_limit = s.low_limit; kept = kept_still _ _ _ _ _ _ _ _ _ _ s.ledger c.make_room.new.self (equal_stays _ _ _ _ _ _ _ call.tally call.contents) c.make_room.ensures.same s.kept }

pub invariant_of-self-in-Err-Failed : goal.invariant_of-self-in-Err-Failed
invariant_of-self-in-Err-Failed g c =
    let s = c.args.self.now in
    let call = c.in-Err-Failed.ensures in
    let entry = rw c.make_room.ensures.same at c.add_fault.ensures.entry in
    record {
      low_limit = s.low_limit;
      kept = kept_fault _ _ _ _ _ _ _ _ _ _ s.ledger c.add_fault.new.self _ _ _ _ entry (equal_stays _ _ _ _ _ _ _ call.tally call.contents) c.faults.ensures.count (rw c.in-Err-Failed.field-0-is at call.tally.counts.cause) c.requires.lawful s.kept;
    }

pub invariant_of-self-in-TooLong-1 : goal.invariant_of-self-in-TooLong-1
invariant_of-self-in-TooLong-1 g c =
    let s = c.args.self.now in
    let call = c.in-Err-TooLong.ensures in
    record { low_limit = s.low_limit; kept = kept_still _ _ _ _ _ _ _ _ _ _ s.ledger c.make_room.new.self (equal_stays _ _ _ _ _ _ _ (rw c.in-Err-TooLong.field-0-is at call.tally) call.contents) c.make_room.ensures.same s.kept }

pub invariant_of-self-in-Err-NoMemory : goal.invariant_of-self-in-Err-NoMemory
invariant_of-self-in-Err-NoMemory g c =
    let s = c.args.self.now in
    let call = c.in-Err-NoMemory.ensures in
    record { low_limit = s.low_limit; kept = kept_still _ _ _ _ _ _ _ _ _ _ s.ledger c.make_room.new.self (equal_stays _ _ _ _ _ _ _ (rw c.in-Err-NoMemory.field-0-is at call.tally) call.contents) c.make_room.ensures.same s.kept }

pub returns-in-Ok-clause-value : goal.returns-in-Ok-clause-value
returns-in-Ok-clause-value g c =
    λ told.
    let s = c.args.self.now in
    let read = read_fits g.P.F.Folder.told s.limit _ c.in-Ok.read c.in-Ok.ensures.read in
    ∥∥₁_elim s.kept
    (some_is_prop _ (base_set g.row.P-C-Value.coded) _)
    (λ k. decoded_is _ _ _ s.low_limit (g.met.P.C.Codec.read_once s.codec) (g.met.P.C.Codec.read_back s.codec) _ _ _ _ (k.main told) read.0 (read.1 told) c.load.ensures.decodes)

pub returns-in-Err-TooLong-clause-value : goal.returns-in-Err-TooLong-clause-value
returns-in-Err-TooLong-clause-value g c =
    λ told.
    let s = c.args.self.now in
    let read = rw c.in-Err-TooLong.field-0-is at c.in-Err-TooLong.ensures.read in
    rw c.in-Err-TooLong.field-0-is
    (∥∥₁_elim s.kept
    (base_set g.row.P-C-Value.coded _ _)
    (λ k. value_is _ _ _ s.low_limit (g.met.P.C.Codec.read_once s.codec) (g.met.P.C.Codec.read_back s.codec) _ _ _ (k.main told) (too_long_reads _ _ _ _ _ read.0 (read.1 told))))
