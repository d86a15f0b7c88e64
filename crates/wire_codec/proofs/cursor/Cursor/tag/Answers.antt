use Rattle.std.proofs.Common.{arith}
use Rattle.std.proofs.lemmas.Result.{err_from_is_err_and}
use Rattle.wire_codec.specs.Faults.{no_varint, too_large, no_number, no_wire_type}
use Rattle.wire_codec.proofs.cursor.Cursor.tag.Goals as goal

pub returns-in_err-value-clause-fault : goal.returns-in_err-value-clause-fault
returns-in_err-value-clause-fault c =
    let p = err_from_is_err_and c.from_residual.result c.from_residual.ensures.1 in
    rw (p.1, p.2) (no_varint c.in_err-value.ensures.fault)

pub returns-then-value-from-clause-fault : goal.returns-then-value-from-clause-fault
returns-then-value-from-clause-fault c =
    let h = c.in_ok-value.ensures.found in
    rw c.place-place.ensures (too_large h.text _ h.passes.rest h.is_varint (omega arith))

pub returns-then-value-lt8-clause-fault : goal.returns-then-value-lt8-clause-fault
returns-then-value-lt8-clause-fault c =
    let h = c.in_ok-value.ensures.found in
    rw c.place-place.ensures (no_number h.text _ h.passes.rest h.is_varint c.if-value-lt8.true)

pub returns-in-None-clause-fault : goal.returns-in-None-clause-fault
returns-in-None-clause-fault c =
    let h = c.in_ok-value.ensures.found in
    rw c.place-place.ensures (no_wire_type h.text _ h.passes.rest h.is_varint c.if-value-lt8.false (omega arith) c.in-None.ensures)
