use Rattle.prefs_text.proofs.OneLine.{line-edit_text}
use Rattle.prefs_text.proofs.laws.edits_are_in_line.Goals as goal

pub returns : goal.returns
returns c = line-edit_text
