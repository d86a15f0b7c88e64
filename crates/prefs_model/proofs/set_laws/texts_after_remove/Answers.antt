use Rattle.prefs_model.specs.Texts.{itself}
use Rattle.prefs_model.proofs.Rising.{without_key_absent}
use Rattle.prefs_model.proofs.Texts.{IsTextSet-without_text, has_text-without_text, has_text-without_other}
use Rattle.prefs_model.proofs.set_laws.texts_after_remove.Goals as goal

pub returns : goal.returns
returns c = record {
  set = IsTextSet-without_text;
  this_text = has_text-without_text;
  other_texts = has_text-without_other;
  absent = without_key_absent itself;
}
