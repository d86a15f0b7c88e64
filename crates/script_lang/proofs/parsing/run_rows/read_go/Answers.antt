use Rattle.script_lang.proofs.RunRows.{go_unknown, go_said}
use Rattle.script_lang.proofs.WordLemmas.{two_texts}
use Rattle.script_lang.proofs.parsing.run_rows.read_go.Goals as goal

pub returns-in_default-find : goal.returns-in_default-find
returns-in_default-find c =
    rw (two_texts c.args.behind.now c.in-len2.len_at_least c.in-len2.len_below)
    (go_unknown c.args.draft.now _ _ c.in-Some.steps c.in-Some.ensures.some c.in_default-find.ensures)

pub returns : goal.returns
returns c =
    rw (two_texts c.args.behind.now c.in-len2.len_at_least c.in-len2.len_below)
    (go_said c.args.draft.now _ _ c.in-Some.steps c.in-Some.ensures.some (record { 0 = c.in-Some-find.client }) c.in-Some-find.ensures)
