use Rattle.script_words.specs.Words.{texts_at}
use Rattle.script_lang.proofs.CallLemmas.{update_calls}
use Rattle.script_lang.proofs.parsing.call_words.update_of.Goals as goal

pub returns : goal.returns
returns c = λ nodes. update_calls nodes (texts_at c.args.words.now) _ c.in_ok-edit_of.ensures.ok
