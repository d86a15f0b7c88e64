use Rattle.std.proofs.lemmas.Result.{err_from_is_err_and}
use Rattle.wire_codec.specs.Faults.{bad_tag}
use Rattle.wire_codec.proofs.Groups.{payload_fault_at}
use Rattle.wire_codec.proofs.OneField.{first_fault_at, lone_fault, plain_passed, group_passed}
use Rattle.wire_codec.proofs.cursor.Cursor.field.Goals as goal

pub returns-in_err-tag-clause-fault : goal.returns-in_err-tag-clause-fault
returns-in_err-tag-clause-fault c =
    let p = err_from_is_err_and c.from_residual.result c.from_residual.ensures.1 in
    rw (p.1, p.2) (first_fault_at (bad_tag c.requires c.in_err-tag.ensures.fault))

pub returns-in_err-payload-in-Plain-clause-fault : goal.returns-in_err-payload-in-Plain-clause-fault
returns-in_err-payload-in-Plain-clause-fault c =
    let p = err_from_is_err_and c.from_residual-in_err-payload-in-Plain.result c.from_residual-in_err-payload-in-Plain.ensures.1 in
    rw (p.1, p.2) (first_fault_at (payload_fault_at (rw c.in-Plain.is at c.in_ok-tag.ensures.found) c.in_err-payload-in-Plain.ensures.fault))

pub returns-in-EndGroup-clause-fault : goal.returns-in-EndGroup-clause-fault
returns-in-EndGroup-clause-fault c = lone_fault (rw c.in-EndGroup.is at c.in_ok-tag.ensures.found) c.place-place.ensures

pub returns-in_ok-payload-in-Plain-clause-found : goal.returns-in_ok-payload-in-Plain-clause-found
returns-in_ok-payload-in-Plain-clause-found c = plain_passed (rw c.in-Plain.is at c.in_ok-tag.ensures.found) c.in_ok-payload-in-Plain.ensures.found c.place-place.ensures

pub returns-in_ok-group-in-StartGroup-clause-found : goal.returns-in_ok-group-in-StartGroup-clause-found
returns-in_ok-group-in-StartGroup-clause-found c = group_passed (rw c.in-StartGroup.is at c.in_ok-tag.ensures.found) c.in_ok-group-in-StartGroup.ensures.found c.place-place.ensures c.place-payload_place.ensures
