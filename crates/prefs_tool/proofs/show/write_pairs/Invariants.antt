use Rattle.std.proofs.Common.{◌≡◌, IsTrue, take, string_bytes}
use Rattle.prefs_tool.specs.Outcome.{shown}
use Rattle.prefs_tool.proofs.ShowLemmas.{AreWritten}
use Rattle.prefs_tool.proofs.show.write_pairs.Given as goal

abbrev pub invariant-loop-pair : goal.invariant-loop-pair
invariant-loop-pair g l = record {
  sound : g.K.Sink.count l.sink ≡ g.K.Sink.count l.initial.sink;
  written : IsTrue g.K.Sink.told → AreWritten (shown (take l.pair-index l.pairs)) (string_bytes l.piece) (g.K.Sink.held l.initial.sink) (g.K.Sink.held l.sink);
}
