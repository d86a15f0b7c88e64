use Rattle.std.proofs.Common.{refl, arith}
use Rattle.wire_codec.proofs.Varints.{in_varint_none, in_varint_more, in_varint_last, cut_fault, too_long_fault}
use Rattle.wire_codec.proofs.cursor.Cursor.varint.Goals as goal

pub loop-init : goal.loop-init
loop-init c = in_varint_none c.args.self.now

pub loop-preserved : goal.loop-preserved
loop-preserved c =
    rw c.from.ensures (in_varint_more c.loop.invariant c.in-Some.ensures c.if-byte-lt128.false (omega arith) refl refl)

pub returns-in_default-clause-fault : goal.returns-in_default-clause-fault
returns-in_default-clause-fault c = cut_fault c.loop.invariant c.loop-test.true c.in_default.ensures.0 c.place-place.ensures

pub returns-then-byte-lt128-clause-found : goal.returns-then-byte-lt128-clause-found
returns-then-byte-lt128-clause-found c = rw c.from.ensures (in_varint_last c.loop.invariant c.in-Some.ensures c.loop-test.true c.if-byte-lt128.true refl)

pub returns-clause-fault : goal.returns-clause-fault
returns-clause-fault c = too_long_fault c.loop.invariant c.loop-test.false c.loop.auto.counter-end c.place-place.ensures
