use Rattle.std.proofs.Common.{◌≡◌, ◌≤◌, ◌+◌, ◌-◌, ◌++◌, IsTrue, length}
use Rattle.byte_io.proofs.reading.read_all.Given as goal

abbrev pub invariant-loop-bytes : goal.invariant-loop-bytes
invariant-loop-bytes g l = record {
  whole : IsTrue g.S.Source.told → g.S.Source.left l.initial.source ≡ l.bytes.items ++ g.S.Source.left l.source;
  within : length l.bytes.items ≤ l.limit;
  sound : g.S.Source.count l.source ≡ g.S.Source.count l.initial.source;
}

abbrev pub decreases-loop-bytes : goal.decreases-loop-bytes
decreases-loop-bytes g l = l.limit + 1 - length l.bytes.items
