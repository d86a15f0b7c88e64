use Rattle.wire_codec.proofs.Varints.{InVarint}
use Rattle.wire_codec.proofs.cursor.Cursor.varint.Given as goal

abbrev pub invariant-loop : goal.invariant-loop
invariant-loop l = InVarint l.fn.self l.self l.counter l.value l.worth
