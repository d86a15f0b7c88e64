use Rattle.std.proofs.Common.{refl, Ok}
use Rattle.std.proofs.lemmas.Result.{err_from_is_err_and}
use Rattle.wire_codec.specs.Fields.{field_seen}
use Rattle.wire_codec.proofs.Walk.{takes_shorter}
use Rattle.prefs_proto.proofs.Loops.{map_none, map_more, map_stop}
use Rattle.prefs_proto.proofs.read_map.read_map.Goals as goal

pub loop-field-init : goal.loop-field-init
loop-field-init c = rw c.new-reader.ensures (map_none c.args.bytes.now (record { entries = c.new.result; texts = Ok tt; keys = Ok tt }) c.new.ensures refl refl)

pub loop-field-smaller : goal.loop-field-smaller
loop-field-smaller c =
    let takes = rw c.in-Ok-Some.field-0-is at c.in-Ok-Some.ensures.next in
    takes_shorter {old = c.loop-field.reader} {new = c.next_field.new.self} {f = field_seen c.in-Ok-Some.field} takes

pub loop-field-preserved : goal.loop-field-preserved
loop-field-preserved c =
    let takes = rw c.in-Ok-Some.field-0-is at c.in-Ok-Some.ensures.next in
    map_more c.args.bytes.now c.loop-field.found c.add_entry.new.found c.loop-field.reader c.next_field.new.self (field_seen c.in-Ok-Some.field) c.loop-field.invariant takes c.in_ok-add_entry-in-Ok-Some.ensures

pub returns-in_err-add_entry-in-Ok-Some : goal.returns-in_err-add_entry-in-Ok-Some
returns-in_err-add_entry-in-Ok-Some c =
    let takes = rw c.in-Ok-Some.field-0-is at c.in-Ok-Some.ensures.next in
    let p = err_from_is_err_and c.from_residual.result c.from_residual.ensures.1 in
    rw (p.1, p.2)
    (map_stop (Unit {0}) c.args.bytes.now c.loop-field.found c.add_entry.new.found c.loop-field.reader c.next_field.new.self (field_seen c.in-Ok-Some.field) c.in_err-add_entry-in-Ok-Some.field-0.0
    c.loop-field.invariant takes c.in_err-add_entry-in-Ok-Some.ensures)
