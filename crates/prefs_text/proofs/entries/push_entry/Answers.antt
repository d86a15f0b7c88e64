use Rattle.std.proofs.Common.{arith}
use Rattle.std.proofs.lemmas.Grind.{common_steps}
use Rattle.prefs_text.specs.EntryText.{entry_text}
use Rattle.prefs_text.proofs.entries.push_entry.Goals as goal

-- for must-fail places_from_zero
pub returns : goal.returns
unfolding entry_text
returns c = grind (arith, common_steps)
