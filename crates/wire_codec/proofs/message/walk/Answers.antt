use Rattle.wire_codec.proofs.Counts.{counting_none, counting_more}
use Rattle.wire_codec.proofs.message.walk.Goals as goal

pub loop-count-init : goal.loop-count-init
loop-count-init c = rw c.new-reader.ensures (counting_none c.args.offset c.args.message.now)

pub loop-count-preserved : goal.loop-count-preserved
loop-count-preserved c = counting_more c.loop-count.invariant (rw c.in-Ok-Some.field-0-is at c.in-Ok-Some.ensures.next)
