use Rattle.std.proofs.Common.{length}
use Rattle.prefs_proto.specs.Found.{unfit_place}
use Rattle.prefs_proto.proofs.Loops.{EntryWalk}
use Rattle.prefs_proto.proofs.read_entry.read_entry.Given as goal

abbrev pub invariant-loop-field : goal.invariant-loop-field
invariant-loop-field l = EntryWalk l.fn.place l.fn.bytes l.key l.draft l.reader (unfit_place l.texts)

abbrev pub decreases-loop-field : goal.decreases-loop-field
decreases-loop-field l = length l.reader.rest
