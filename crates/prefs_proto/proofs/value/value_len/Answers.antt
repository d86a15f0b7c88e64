use Rattle.std.proofs.Common.{◌∙◌, ap, length, List, ℕ, arith}
use Rattle.prefs_proto.specs.FieldText.{field, count_of}
use Rattle.prefs_proto.specs.ValueText.{value_text, set_text}
use Rattle.prefs_proto.proofs.Counts.{count-field}
use Rattle.prefs_proto.proofs.value.value_len.Goals as goal

pub returns-in-Text : goal.returns-in-Text
unfolding value_text
returns-in-Text c =
    rw c.in-Text.is (c.field_len.ensures ∙ count-field 0x2a c.as_str.result.now (length c.as_str.result.now) (omega arith) ∙ ap (λ (text : List ℕ). count_of (field 0x2a text)) c.as_str.ensures.value)

pub returns-in-Texts : goal.returns-in-Texts
unfolding value_text
returns-in-Texts c =
    rw c.in-Texts.is (c.field_len-in-Texts.ensures ∙ count-field 0x32 (set_text c.texts.result.now) c.texts_len.result c.texts_len.ensures ∙ ap (λ (texts : List (List ℕ)). count_of (field 0x32 (set_text texts))) c.texts.ensures.texts)
