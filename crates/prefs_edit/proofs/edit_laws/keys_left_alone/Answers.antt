use Rattle.prefs_edit.proofs.LeftAlone.{value_at-after_steps}
use Rattle.prefs_edit.proofs.edit_laws.keys_left_alone.Goals as goal

pub returns : goal.returns
returns c = value_at-after_steps
