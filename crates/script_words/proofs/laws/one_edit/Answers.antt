use Rattle.script_words.proofs.OneEdit.{one_edit}
use Rattle.script_words.proofs.laws.one_edit.Goals as goal

pub returns : goal.returns
returns c = one_edit
