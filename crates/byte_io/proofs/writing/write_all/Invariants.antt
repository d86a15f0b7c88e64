use Rattle.std.proofs.Common.{◌≡◌, IsTrue, length}
use Rattle.byte_io.proofs.WriteLemmas.{Wrote}
use Rattle.byte_io.proofs.writing.write_all.Given as goal

abbrev pub invariant-loop-rest : goal.invariant-loop-rest
invariant-loop-rest g l = record {
  wrote : IsTrue g.K.Sink.told → Wrote l.piece l.rest (g.K.Sink.held l.initial.sink) (g.K.Sink.held l.sink);
  sound : g.K.Sink.count l.sink ≡ g.K.Sink.count l.initial.sink;
}

abbrev pub decreases-loop-rest : goal.decreases-loop-rest
decreases-loop-rest g l = length l.rest
