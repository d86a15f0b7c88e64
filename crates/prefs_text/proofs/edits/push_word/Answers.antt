use Rattle.std.proofs.Common.{arith}
use Rattle.std.proofs.lemmas.Grind.{common_steps}
use Rattle.prefs_text.proofs.edits.push_word.Goals as goal

-- for must-fail key_left_unquoted
pub returns : goal.returns
returns c = grind (arith, common_steps)
