use Rattle.std.proofs.Common.{◌≡◌, ◌++◌, IsTrue, length}
use Rattle.prefs_tool.proofs.AppendLemmas.{Appending, AppendsOf, RoomForRest}
use Rattle.prefs_tool.proofs.append.append_rest.Given as goal

abbrev pub invariant-loop-filled : goal.invariant-loop-filled
invariant-loop-filled g l = record {
  bytes : l.filled.written ++ l.filled.rest ≡ l.fn.plan.written ++ l.fn.plan.rest;
  contents : IsTrue g.F.Folder.told → Appending l.filled (g.F.Folder.contents l.initial.folder) (g.F.Folder.contents l.folder);
  calls : IsTrue g.F.Folder.told
      → AppendsOf (length l.fn.plan.rest) (length l.filled.rest) (g.F.Folder.tally l.initial.folder).due (g.F.Folder.tally l.folder).due;
  room : RoomForRest l.filled (g.F.Folder.room l.initial.folder) (g.F.Folder.room l.folder);
  sound : (g.F.Folder.tally l.folder).count ≡ (g.F.Folder.tally l.initial.folder).count;
}

abbrev pub decreases-loop-filled : goal.decreases-loop-filled
decreases-loop-filled g l = length l.filled.rest
