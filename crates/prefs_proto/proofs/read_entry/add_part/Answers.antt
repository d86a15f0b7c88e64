use Rattle.wire_codec.specs.Fields.{field_seen}
use Rattle.prefs_proto.proofs.Steps.{part_value, part_key, part_no_key}
use Rattle.prefs_proto.proofs.read_entry.add_part.Goals as goal

pub returns-in-Some : goal.returns-in-Some
returns-in-Some c =
    let read = rw c.payload_place-place.ensures at c.read_value.ensures in
    part_value (field_seen c.args.field.now) c.in-Some.value.now c.args.key.now c.args.draft.now c.read_value.new.draft c.read_value.result c.in-Some.ensures read

pub returns-in-Ok : goal.returns-in-Ok
returns-in-Ok c =
    let read = rw (c.payload_place-place.ensures, c.in-Ok.is) at c.in_ok-text.ensures in
    part_key (field_seen c.args.field.now) c.in-Some-bytes_in.text.now c.in-Ok.text c.args.key.now c.args.draft.now c.in_default.ensures c.in-Some-bytes_in.ensures read

pub returns-in-Err : goal.returns-in-Err
returns-in-Err c =
    let read = rw (c.payload_place-place.ensures, c.in-Err.is) at c.in_ok-text.ensures in
    part_no_key (field_seen c.args.field.now) c.in-Some-bytes_in.text.now c.in-Err.at c.args.key.now c.args.key.now c.args.draft.now c.args.draft.now c.in_default.ensures c.in-Some-bytes_in.ensures read
