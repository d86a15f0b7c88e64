use Rattle.wire_codec.specs.Fields.{field_seen}
use Rattle.prefs_proto.proofs.Steps.{member_set, member_text, member_no_text, member_scalar}
use Rattle.prefs_proto.proofs.read_value.add_member.Goals as goal

pub returns-in-Some : goal.returns-in-Some
returns-in-Some c =
    let read = rw c.payload_place-place.ensures at c.add_set.ensures in
    member_set (field_seen c.args.field.now) c.in-Some.set.now c.args.draft.now c.add_set.new.draft c.add_set.result c.in-Some.ensures read

pub returns-in-Ok : goal.returns-in-Ok
returns-in-Ok c =
    let read = rw (c.payload_place-place.ensures, c.in-Ok.is) at c.in_ok-text.ensures in
    member_text (field_seen c.args.field.now) c.in-Some-bytes_in.text.now c.in-Ok.text c.args.draft.now c.in_default.ensures c.in-Some-bytes_in.ensures read

pub returns-in-Err : goal.returns-in-Err
returns-in-Err c =
    let read = rw (c.payload_place-place.ensures, c.in-Err.is) at c.in_ok-text.ensures in
    member_no_text (field_seen c.args.field.now) c.in-Some-bytes_in.text.now c.in-Err.at c.args.draft.now c.args.draft.now c.in_default.ensures c.in-Some-bytes_in.ensures read

pub returns-in-Some-scalar_in : goal.returns-in-Some-scalar_in
returns-in-Some-scalar_in c =
    member_scalar (field_seen c.args.field.now) c.in-Some-scalar_in.value c.args.draft.now c.in_default.ensures c.in_default-bytes_in.ensures c.in-Some-scalar_in.ensures
