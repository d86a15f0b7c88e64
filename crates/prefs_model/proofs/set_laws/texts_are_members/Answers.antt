use Rattle.prefs_model.proofs.Texts.{has_text-Contains}
use Rattle.prefs_model.proofs.set_laws.texts_are_members.Goals as goal

pub returns : goal.returns
returns c = has_text-Contains
