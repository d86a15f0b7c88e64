use Rattle.std.proofs.Common.{◌∙◌}
use Rattle.std.proofs.lemmas.Result.{err_from_is_err_and}
use Rattle.wire_codec.specs.Fields.{field_seen}
use Rattle.prefs_proto.specs.Found.{unfit_place}
use Rattle.prefs_proto.proofs.Loops.{entry_none, entry_more, entry_stop, entry_all}
use Rattle.prefs_proto.proofs.read_entry.read_entry.Goals as goal

pub loop-field-init : goal.loop-field-init
loop-field-init c = rw c.new-reader.ensures (entry_none c.args.place c.args.bytes.now c.new-key.result (c.new-key.ensures ∙ c.new.ensures.bytes))

pub returns-in_err-new-in-Ok-Some : goal.returns-in_err-new-in-Ok-Some
returns-in_err-new-in-Ok-Some c =
    let takes = rw c.in-Ok-Some.field-0-is at c.in-Ok-Some.ensures.next in
    let p = err_from_is_err_and c.from_residual.result c.from_residual.ensures.1 in
    rw (p.1, p.2)
    (entry_stop c.args.place c.args.bytes.now c.loop-field.key c.add_part.new.key c.loop-field.draft c.add_part.new.draft c.loop-field.reader c.next_field.new.self (field_seen c.in-Ok-Some.field) (unfit_place c.loop-field.texts) c.in_err-new-in-Ok-Some.field-0.0
    c.loop-field.invariant takes c.in_err-new-in-Ok-Some.ensures)

pub loop-field-preserved : goal.loop-field-preserved
loop-field-preserved c =
    let takes = rw c.in-Ok-Some.field-0-is at c.in-Ok-Some.ensures.next in
    rw c.first_of-texts.ensures
    (entry_more c.args.place c.args.bytes.now c.loop-field.key c.add_part.new.key c.loop-field.draft c.add_part.new.draft c.loop-field.reader c.next_field.new.self (field_seen c.in-Ok-Some.field) (unfit_place c.loop-field.texts) (unfit_place c.in_ok-new-in-Ok-Some.new)
    c.loop-field.invariant takes c.in_ok-new-in-Ok-Some.ensures)

pub returns-in-Ok-None : goal.returns-in-Ok-None
returns-in-Ok-None c =
    let end = rw c.in-Ok-None.field-0-is at c.in-Ok-None.ensures.next in
    entry_all c.args.place c.args.bytes.now c.loop-field.reader c.next_field.new.self (record { key = c.loop-field.key; draft = c.loop-field.draft; texts = c.loop-field.texts }) c.loop-field.invariant end
