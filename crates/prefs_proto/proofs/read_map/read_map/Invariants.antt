use Rattle.std.proofs.Common.{length}
use Rattle.prefs_proto.proofs.Loops.{MapWalk}
use Rattle.prefs_proto.proofs.read_map.read_map.Given as goal

abbrev pub invariant-loop-field : goal.invariant-loop-field
invariant-loop-field l = MapWalk l.fn.bytes l.found l.reader

abbrev pub decreases-loop-field : goal.decreases-loop-field
decreases-loop-field l = length l.reader.rest
