use Rattle.wire_codec.specs.Fields.{field_seen}
use Rattle.prefs_proto.specs.Found.{unfit_place}
use Rattle.prefs_proto.proofs.Loops.{set_none, set_more}
use Rattle.prefs_proto.proofs.read_set.read_set.Goals as goal

pub loop-field-init : goal.loop-field-init
loop-field-init c = rw c.new-reader.ensures (set_none c.args.place c.args.bytes.now c.args.texts.now)

pub loop-field-preserved : goal.loop-field-preserved
loop-field-preserved c =
    let takes = rw c.in-Ok-Some.field-0-is at c.in-Ok-Some.ensures.next in
    rw c.first_of-read.ensures
    (set_more c.args.place c.args.bytes.now c.args.texts.now c.loop-field.texts c.add_field.new.texts c.loop-field.reader c.next_field.new.self (field_seen c.in-Ok-Some.field) (unfit_place c.loop-field.read) (unfit_place c.in_ok-new-in-Ok-Some.new)
    c.loop-field.invariant takes c.in_ok-new-in-Ok-Some.ensures)
