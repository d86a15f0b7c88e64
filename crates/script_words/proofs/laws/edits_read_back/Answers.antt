use Rattle.script_words.proofs.PrintedEdits.{reads_back}
use Rattle.script_words.proofs.laws.edits_read_back.Goals as goal

pub returns : goal.returns
returns c = reads_back
