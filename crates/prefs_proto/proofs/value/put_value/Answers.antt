use Rattle.std.proofs.Common.{◌≡◌, length, arith}
use Rattle.std.proofs.lemmas.Grind.{common_steps}
use Rattle.prefs_proto.specs.FieldText.{field}
use Rattle.prefs_proto.specs.ValueText.{value_text, set_text}
use Rattle.prefs_proto.proofs.Counts.{counted}
use Rattle.prefs_proto.proofs.value.put_value.Goals as goal

pub returns-in_ok-put_head-in-Texts : goal.returns-in_ok-put_head-in-Texts
unfolding value_text field
returns-in_ok-put_head-in-Texts c =
    let exact : c.texts_len.result ≡ length (set_text c.texts.result.now) = counted (set_text c.texts.result.now) c.texts_len.result c.texts_len.ensures c.in_ok-put_head-in-Texts.ensures.fits in
    grind (arith, common_steps, exact, c.in_ok-put_head-in-Texts.ensures.head, c.put_texts.ensures, c.texts.ensures.texts, c.texts-in-Texts.ensures.texts, c.in-Texts.is)
