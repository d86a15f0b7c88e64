-- What a plan writes is a value change.
use Rattle.std.proofs.Common.{ap}
use Rattle.hist_journal.specs.Kinds.{is_change}
use Rattle.step_table.specs.Calls.{At, Appending, Creating, Renaming, SyncingScratch, Writing}
use Rattle.step_table.specs.Laws.{WritesAChange}
use Rattle.node_core.specs.Plans.{PlanAt}

pub writes_change : {V T : Type 0} (at : At V T) → PlanAt at → WritesAChange at
writes_change (Writing Creating plan) so = ap is_change so.asked.is
writes_change (Writing Appending plan) so = ap is_change so.asked.is
writes_change (Writing SyncingScratch plan) so = ap is_change so.asked.is
writes_change (Writing Renaming plan) so = ap is_change so.asked.is
writes_change other so = tt
