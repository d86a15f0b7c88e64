use Rattle.std.proofs.Common.{◌≡◌, ◌∙◌, length, List, ℕ, subst, arith}
use Rattle.prefs_proto.specs.FieldText.{field, count_of}
use Rattle.prefs_proto.proofs.Counts.{count-field, count-text_more}
use Rattle.prefs_proto.proofs.set.texts_len.Goals as goal

pub loop-text-preserved : goal.loop-text-preserved
loop-text-preserved c =
    let one : c.field_len.result ≡ count_of (field 0x0a c.as_str.result.now) = c.field_len.ensures ∙ count-field 0x0a c.as_str.result.now (length c.as_str.result.now) (omega arith) in
    count-text_more c.args.texts.now c.loop-text.text-index c.text-item.result c.loop-text.len c.field_len.result c.saturating_add-len.result c.loop-text-test.true c.text-item.is c.loop-text.invariant
    (subst (λ (text : List ℕ). c.field_len.result ≡ count_of (field 0x0a text)) c.as_str.ensures.value one) c.saturating_add-len.ensures
