use Rattle.std.proofs.Common.{arith}
use Rattle.wire_codec.proofs.Texts.{varint_text_within, length_last, length_more}
use Rattle.wire_codec.proofs.varint.varint_len.Goals as goal

pub overflow_add-len : goal.overflow_add-len
overflow_add-len c = omega (arith, c.loop-rest.invariant, varint_text_within c.args.number)

pub loop-rest-preserved : goal.loop-rest-preserved
loop-rest-preserved c = omega (arith, c.loop-rest.invariant, length_more c.loop-rest.rest (omega arith) (omega arith))

pub returns : goal.returns
returns c = omega (arith, c.loop-rest.invariant, length_last c.loop-rest.rest (omega arith), varint_text_within c.args.number)
