use Rattle.std.proofs.lemmas.Result.{err_from_is_err_and}
use Rattle.wire_codec.specs.Faults.{varint_fault}
use Rattle.wire_codec.proofs.cursor.Cursor.payload.Goals as goal

pub returns-in_err-varint-in-Varint-clause-fault : goal.returns-in_err-varint-in-Varint-clause-fault
returns-in_err-varint-in-Varint-clause-fault c =
    let p = err_from_is_err_and c.from_residual.result c.from_residual.ensures.1 in
    rw (p.1, p.2, c.in-Varint.is) (varint_fault c.in_err-varint-in-Varint.ensures.fault)
