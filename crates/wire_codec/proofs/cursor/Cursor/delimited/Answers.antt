use Rattle.std.proofs.lemmas.Result.{err_from_is_err_and}
use Rattle.wire_codec.specs.Faults.{length_fault, text_cut}
use Rattle.wire_codec.proofs.cursor.Cursor.delimited.Goals as goal

pub returns-in_err-len-clause-fault : goal.returns-in_err-len-clause-fault
returns-in_err-len-clause-fault c =
    let p = err_from_is_err_and c.from_residual.result c.from_residual.ensures.1 in
    rw (p.1, p.2) (length_fault c.in_err-len.ensures.fault)

pub returns-in-None-clause-fault : goal.returns-in-None-clause-fault
returns-in-None-clause-fault c =
    let h = c.in_ok-len.ensures.found in
    rw (c.place-place.ensures, h.passes.place) (text_cut h.text _ h.passes.rest h.is_varint c.in-None.ensures.0)
