use Rattle.std.proofs.Common.{length}
use Rattle.wire_codec.proofs.Counts.{Counting}
use Rattle.wire_codec.proofs.message.walk.Given as goal

abbrev pub invariant-loop-count : goal.invariant-loop-count
invariant-loop-count l = Counting l.fn.offset l.fn.message l.reader l.count

abbrev pub decreases-loop-count : goal.decreases-loop-count
decreases-loop-count l = length l.reader.rest
