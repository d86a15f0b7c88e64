use Rattle.prefs_edit.proofs.Turns.{after_steps-append}
use Rattle.prefs_edit.proofs.edit_laws.edits_in_turn.Goals as goal

pub returns : goal.returns
returns c = after_steps-append
