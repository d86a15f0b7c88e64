use Rattle.wire_codec.proofs.Texts.{InText}
use Rattle.wire_codec.proofs.varint.put_varint.Given as goal

abbrev pub invariant-loop-rest : goal.invariant-loop-rest
invariant-loop-rest l = InText l.fn.out.items l.out.items l.number l.rest

abbrev pub decreases-loop-rest : goal.decreases-loop-rest
decreases-loop-rest l = l.rest
