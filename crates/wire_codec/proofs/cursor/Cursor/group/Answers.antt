use Rattle.std.proofs.lemmas.Result.{err_from_is_err_and}
use Rattle.wire_codec.proofs.Groups.{in_group_none, in_group_step, in_group_done, in_group_fault}
use Rattle.wire_codec.proofs.cursor.Cursor.group.Goals as goal

pub loop-groups-init : goal.loop-groups-init
loop-groups-init c = rw c.new-groups.ensures (in_group_none c.args.self.now c.args.first)

pub loop-groups-preserved : goal.loop-groups-preserved
loop-groups-preserved c = in_group_step c.loop-groups.groups c.loop-groups.invariant c.loop-groups-test.ensures.some c.in_ok-step.ensures.found

pub returns-in_err-step-clause-fault : goal.returns-in_err-step-clause-fault
returns-in_err-step-clause-fault c =
    let p = err_from_is_err_and c.from_residual.result c.from_residual.ensures.1 in
    rw (p.1, p.2) (in_group_fault c.loop-groups.groups c.loop-groups.invariant c.loop-groups-test.ensures.some c.in_err-step.ensures.fault)

pub returns-clause-found : goal.returns-clause-found
returns-clause-found c = in_group_done c.loop-groups.invariant c.loop-groups-test.ensures.none
