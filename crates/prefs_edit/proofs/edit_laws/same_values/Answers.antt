use Rattle.prefs_edit.proofs.Same.{same_value-Decides}
use Rattle.prefs_edit.proofs.edit_laws.same_values.Goals as goal

pub returns : goal.returns
returns c = same_value-Decides
