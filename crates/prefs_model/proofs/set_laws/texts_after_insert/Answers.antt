use Rattle.prefs_model.proofs.Texts.{IsTextSet-with_text, has_text-with_text, has_text-with_other, with_text_same}
use Rattle.prefs_model.proofs.set_laws.texts_after_insert.Goals as goal

pub returns : goal.returns
returns c = record {
  set = IsTextSet-with_text;
  this_text = has_text-with_text;
  other_texts = has_text-with_other;
  same_text = with_text_same;
}
