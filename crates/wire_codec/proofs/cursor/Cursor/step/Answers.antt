use Rattle.std.proofs.lemmas.Result.{err_from_is_err_and}
use Rattle.wire_codec.specs.Faults.{bad_tag}
use Rattle.wire_codec.proofs.Groups.{at_end_fault, payload_fault_at, deep_fault_at, lone_fault_at, stepped_over, stepped_into, stepped_out}
use Rattle.wire_codec.proofs.cursor.Cursor.step.Goals as goal

pub returns-then-is_at_end-clause-fault : goal.returns-then-is_at_end-clause-fault
returns-then-is_at_end-clause-fault c = at_end_fault c.innermost-innermost.ensures c.if-is_at_end.ensures.end

pub returns-in_err-tag-clause-fault : goal.returns-in_err-tag-clause-fault
returns-in_err-tag-clause-fault c =
    let p = err_from_is_err_and c.from_residual.result c.from_residual.ensures.1 in
    rw (p.1, p.2) (bad_tag c.if-is_at_end.ensures.left c.in_err-tag.ensures.fault)

pub returns-in_err-payload-in-Plain-clause-fault : goal.returns-in_err-payload-in-Plain-clause-fault
returns-in_err-payload-in-Plain-clause-fault c =
    let p = err_from_is_err_and c.from_residual-in_err-payload-in-Plain.result c.from_residual-in_err-payload-in-Plain.ensures.1 in
    rw (p.1, p.2) (payload_fault_at (rw c.in-Plain.is at c.in_ok-tag.ensures.found) c.in_err-payload-in-Plain.ensures.fault)

pub returns-then-is_full-clause-fault : goal.returns-then-is_full-clause-fault
returns-then-is_full-clause-fault c = rw c.place-place.ensures (deep_fault_at (rw c.in-StartGroup.is at c.in_ok-tag.ensures.found) c.if-is_full.ensures.full)

pub returns-then-tag-innermost-clause-fault : goal.returns-then-tag-innermost-clause-fault
returns-then-tag-innermost-clause-fault c = rw c.place-place.ensures (lone_fault_at (rw c.in-EndGroup.is at c.in_ok-tag.ensures.found) c.innermost-innermost.ensures c.if-tag-innermost.true)

pub returns-in_ok-payload-in-Plain-clause-found : goal.returns-in_ok-payload-in-Plain-clause-found
returns-in_ok-payload-in-Plain-clause-found c = stepped_over (rw c.in-Plain.is at c.in_ok-tag.ensures.found) c.in_ok-payload-in-Plain.ensures.found

pub returns-else-is_full-clause-found : goal.returns-else-is_full-clause-found
returns-else-is_full-clause-found c = stepped_into (rw c.in-StartGroup.is at c.in_ok-tag.ensures.found) c.place-place.ensures c.if-is_full.ensures.room c.push.ensures

pub returns-else-tag-innermost-clause-found : goal.returns-else-tag-innermost-clause-found
returns-else-tag-innermost-clause-found c = stepped_out (rw c.in-EndGroup.is at c.in_ok-tag.ensures.found) c.innermost-innermost.ensures c.if-tag-innermost.false c.pop.ensures
