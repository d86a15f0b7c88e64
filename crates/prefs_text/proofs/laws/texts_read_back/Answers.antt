use Rattle.prefs_text.proofs.Back.{reads_value_text}
use Rattle.prefs_text.proofs.laws.texts_read_back.Goals as goal

pub returns : goal.returns
returns c = reads_value_text
