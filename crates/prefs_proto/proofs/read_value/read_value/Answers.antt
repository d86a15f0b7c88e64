use Rattle.std.proofs.lemmas.Result.{err_from_is_err_and}
use Rattle.wire_codec.specs.Fields.{field_seen}
use Rattle.prefs_proto.specs.Found.{unfit_place}
use Rattle.prefs_proto.proofs.Loops.{value_none, value_more, value_stop}
use Rattle.prefs_proto.proofs.read_value.read_value.Goals as goal

pub loop-field-init : goal.loop-field-init
loop-field-init c = rw c.new-reader.ensures (value_none c.args.place c.args.bytes.now c.args.draft.now)

pub returns-in_err-new-in-Ok-Some : goal.returns-in_err-new-in-Ok-Some
returns-in_err-new-in-Ok-Some c =
    let takes = rw c.in-Ok-Some.field-0-is at c.in-Ok-Some.ensures.next in
    let p = err_from_is_err_and c.from_residual.result c.from_residual.ensures.1 in
    rw (p.1, p.2)
    (value_stop c.args.place c.args.bytes.now c.args.draft.now c.loop-field.draft c.add_member.new.draft c.loop-field.reader c.next_field.new.self (field_seen c.in-Ok-Some.field) (unfit_place c.loop-field.read) c.in_err-new-in-Ok-Some.field-0.0
    c.loop-field.invariant takes c.in_err-new-in-Ok-Some.ensures)

pub loop-field-preserved : goal.loop-field-preserved
loop-field-preserved c =
    let takes = rw c.in-Ok-Some.field-0-is at c.in-Ok-Some.ensures.next in
    rw c.first_of-read.ensures
    (value_more c.args.place c.args.bytes.now c.args.draft.now c.loop-field.draft c.add_member.new.draft c.loop-field.reader c.next_field.new.self (field_seen c.in-Ok-Some.field) (unfit_place c.loop-field.read) (unfit_place c.in_ok-new-in-Ok-Some.new)
    c.loop-field.invariant takes c.in_ok-new-in-Ok-Some.ensures)
