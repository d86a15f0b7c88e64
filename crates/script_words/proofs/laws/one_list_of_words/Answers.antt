use Rattle.script_words.proofs.OneLine.{one_list}
use Rattle.script_words.proofs.laws.one_list_of_words.Goals as goal

pub returns : goal.returns
returns c = one_list
