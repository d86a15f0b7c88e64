use Rattle.std.proofs.Common.{length}
use Rattle.prefs_model.proofs.EntryLemmas.{Taken}
use Rattle.prefs_model.proofs.first_values.first_values.Given as goal

abbrev pub invariant-loop-key : goal.invariant-loop-key
invariant-loop-key l = Taken l.fn.entries.items l.entries.items l.pairs.items

abbrev pub decreases-loop-key : goal.decreases-loop-key
decreases-loop-key l = length l.entries.items
