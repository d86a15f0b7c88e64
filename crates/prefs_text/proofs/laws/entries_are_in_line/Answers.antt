use Rattle.prefs_text.proofs.TranscriptLines.{line-entry_text}
use Rattle.prefs_text.proofs.laws.entries_are_in_line.Goals as goal

pub returns : goal.returns
returns c = line-entry_text
