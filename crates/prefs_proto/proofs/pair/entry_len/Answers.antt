use Rattle.std.proofs.Common.{◌≡◌, ◌++◌, ◌∙◌, ap, length, List, ℕ, arith}
use Rattle.prefs_proto.specs.FieldText.{field, count_of}
use Rattle.prefs_proto.specs.ValueText.{value_text}
use Rattle.prefs_proto.specs.Encoded.{entry_text}
use Rattle.prefs_proto.proofs.Counts.{count-field, count-append}
use Rattle.prefs_proto.proofs.pair.entry_len.Goals as goal

pub returns : goal.returns
unfolding entry_text
returns c =
    let key : c.field_len.result ≡ count_of (field 0x0a c.as_str-key.result.now) = c.field_len.ensures ∙ count-field 0x0a c.as_str-key.result.now (length c.as_str-key.result.now) (omega arith) in
    let content = value_text c.args.pair.now.value in
    let value : c.field_len-2.result ≡ count_of (field 0x12 content) = c.field_len-2.ensures ∙ count-field 0x12 content c.value_len.result c.value_len.ensures in
    c.saturating_add.ensures ∙ count-append (field 0x0a c.as_str-key.result.now) (field 0x12 content) c.field_len.result c.field_len-2.result key value
    ∙ ap (λ (text : List ℕ). count_of (field 0x0a text ++ field 0x12 content)) c.as_str-key.ensures.value
