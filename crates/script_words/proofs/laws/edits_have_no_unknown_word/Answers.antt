use Rattle.script_words.proofs.Unknowns.{edit_known}
use Rattle.script_words.proofs.laws.edits_have_no_unknown_word.Goals as goal

pub returns : goal.returns
returns c = edit_known
