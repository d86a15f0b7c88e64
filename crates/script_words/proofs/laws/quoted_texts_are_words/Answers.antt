use Rattle.script_words.proofs.PrintedWords.{whole_quoted}
use Rattle.script_words.proofs.laws.quoted_texts_are_words.Goals as goal

pub returns : goal.returns
returns c = whole_quoted
