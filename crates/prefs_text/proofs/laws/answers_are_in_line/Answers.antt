use Rattle.prefs_text.proofs.TranscriptLines.{line-answer_text}
use Rattle.prefs_text.proofs.laws.answers_are_in_line.Goals as goal

pub returns : goal.returns
returns c = line-answer_text
