use Rattle.folder_disk.proofs.fault_plan.FaultPlan.strikes.Goals as goal

pub is_next_planned-is_planned-requires : goal.is_next_planned-is_planned-requires
is_next_planned-is_planned-requires c = rw c.deref.ensures.value c.self.invariant.0
