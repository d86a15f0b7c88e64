use Rattle.std.proofs.Common.{length}
use Rattle.prefs_proto.specs.Found.{unfit_place}
use Rattle.prefs_proto.proofs.Loops.{ValueWalk}
use Rattle.prefs_proto.proofs.read_value.read_value.Given as goal

abbrev pub invariant-loop-field : goal.invariant-loop-field
invariant-loop-field l = ValueWalk l.fn.place l.fn.bytes l.fn.draft l.draft l.reader (unfit_place l.read)

abbrev pub decreases-loop-field : goal.decreases-loop-field
decreases-loop-field l = length l.reader.rest
