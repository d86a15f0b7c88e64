use Rattle.std.proofs.Common.{arith}
use Rattle.wire_codec.proofs.Texts.{in_text_none, in_text_more, in_text_last}
use Rattle.wire_codec.proofs.varint.put_varint.Goals as goal

pub loop-rest-init : goal.loop-rest-init
loop-rest-init c = in_text_none c.args.out.now.items c.args.number (omega arith)

pub loop-rest-preserved : goal.loop-rest-preserved
loop-rest-preserved c = in_text_more c.loop-rest.invariant c.loop-rest-test.true c.in_ok-push.ensures.items

pub returns-clause-ok : goal.returns-clause-ok
returns-clause-ok c = in_text_last c.loop-rest.invariant c.loop-rest-test.false c.in_ok-push-2.ensures.items
