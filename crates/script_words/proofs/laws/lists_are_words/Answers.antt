use Rattle.script_words.proofs.PrintedWords.{whole_list}
use Rattle.script_words.proofs.laws.lists_are_words.Goals as goal

pub returns : goal.returns
returns c = whole_list
