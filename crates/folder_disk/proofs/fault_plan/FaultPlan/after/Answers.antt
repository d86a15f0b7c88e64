use Rattle.std.proofs.Common.{arith, length, ap}
use Rattle.folder_disk.proofs.OrderLemmas.{written_back}
use Rattle.folder_disk.proofs.PlanLemmas.{left_at_most}
use Rattle.folder_disk.proofs.fault_plan.FaultPlan.after.Goals as goal

pub invariant_of-result : goal.invariant_of-result
invariant_of-result c =
    let lengths = ap length c.deref_mut.ensures.value in
    let same = written_back c.args.planned.len c.put_in_order.new.planned c.args.planned.items (omega (arith, lengths)) in
    let few = left_at_most c.new.result c.put_in_order.new.planned in
    rw same (c.put_in_order.ensures.rises, omega (arith, lengths))
