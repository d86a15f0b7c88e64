use Rattle.script_words.proofs.OneLine.{words_of}
use Rattle.script_words.proofs.laws.words_are_there.Goals as goal

pub returns : goal.returns
returns c = words_of
