use Rattle.std.proofs.Common.{◌≡◌, ◌<◌, ◌≤◌, length, refl, ap, ◌∙◌, arith}
use Rattle.wire_codec.specs.Fields.{field_seen}
use Rattle.prefs_proto.specs.declared.read_map.MapFound.{MapFound}
use Rattle.prefs_proto.specs.Found.{settled}
use Rattle.prefs_proto.proofs.Steps.{entry_added, entry_long, pushed_as}
use Rattle.prefs_proto.proofs.read_map.add_entry.Goals as goal

pub returns-in_ok-push-in-Ok : goal.returns-in_ok-push-in-Ok
returns-in_ok-push-in-Ok c =
    let found = c.in_ok-key.field-0 in
    let read = rw c.payload_place.ensures at c.in_ok-key.ensures in
    let new : MapFound = record { entries = c.push.new.self; texts = c.first_of-found.result; keys = c.args.found.now.keys } in
    let same : c.in-Ok.key ≡ found.key = c.in-Ok.ensures ∙ c.into_string.ensures in
    let short : length found.key ≤ 1024 = omega (arith, c.key.invariant, ap length c.key.view_is, ap length same) in
    entry_added (field_seen c.args.field.now) c.in-Some.bytes.now found c.args.found.now new c.in-Some.ensures read c.first_of-found.ensures short refl
    (pushed_as c.args.found.now.entries c.push.new.self c.in-Ok.key found.key c.in_ok-value-in-Ok.value (settled found.draft) c.in_ok-push-in-Ok.ensures.ok same c.in_ok-value-in-Ok.ensures)

pub returns-in-Err : goal.returns-in-Err
returns-in-Err c =
    let found = c.in_ok-key.field-0 in
    let read = rw c.payload_place.ensures at c.in_ok-key.ensures in
    let new : MapFound = record { entries = c.args.found.now.entries; texts = c.first_of-found.result; keys = c.first_of-found-in-Err.result } in
    let long : 1024 < length found.key = omega (arith, c.in-Err.ensures.0, c.in-Err.ensures.1, ap length c.into_string.ensures) in
    entry_long (field_seen c.args.field.now) c.in-Some.bytes.now found c.args.found.now new c.in-Some.ensures read c.first_of-found.ensures long c.first_of-found-in-Err.ensures
