use Rattle.script_lang.proofs.CallLemmas.{restart_calls}
use Rattle.script_lang.proofs.WordLemmas.{one_text}
use Rattle.script_lang.proofs.parsing.call_words.restart_of.Goals as goal

pub returns : goal.returns
returns c =
    rw (one_text c.args.words.now c.in-len1.len_at_least c.in-len1.len_below)
    (restart_calls c.args.draft.now.nodes _ (record { 0 = c.in-Some.node }) c.in-Some.ensures)
