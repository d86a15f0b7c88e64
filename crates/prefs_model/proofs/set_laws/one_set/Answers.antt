use Rattle.prefs_model.proofs.Texts.{same_from_has_text}
use Rattle.prefs_model.proofs.set_laws.one_set.Goals as goal

pub returns : goal.returns
returns c = same_from_has_text
