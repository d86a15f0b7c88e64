use Rattle.std.proofs.Common.{◌+◌, ◌≡◌, length}
use Rattle.wire_codec.specs.Text.{varint_text}
use Rattle.wire_codec.proofs.varint.varint_len.Given as goal

abbrev pub invariant-loop-rest : goal.invariant-loop-rest
invariant-loop-rest l = l.len + length (varint_text l.rest) ≡ 1 + length (varint_text l.number)

abbrev pub decreases-loop-rest : goal.decreases-loop-rest
decreases-loop-rest l = l.rest
