use Rattle.script_words.specs.Words.{texts_at}
use Rattle.script_lang.proofs.StartRows.{history_barred, history_said}
use Rattle.script_lang.proofs.TestLemmas.{refuted}
use Rattle.script_lang.proofs.WordLemmas.{one_text}
use Rattle.script_lang.proofs.parsing.start_rows.read_history.Goals as goal

pub returns-then-bars_history : goal.returns-then-bars_history
returns-then-bars_history c =
    history_barred c.args.draft.now (texts_at c.args.behind.now) c.in-Some.entries
    (record { word = _; row = one_text c.args.behind.now c.in-len1.len_at_least c.in-len1.len_below; is_number = c.in-Some.ensures.some })
    (c.bars_history.ensures.0 c.if-bars_history.true)

pub returns : goal.returns
returns c =
    history_said c.args.draft.now (texts_at c.args.behind.now) c.in-Some.entries
    (record { word = _; row = one_text c.args.behind.now c.in-len1.len_at_least c.in-len1.len_below; is_number = c.in-Some.ensures.some })
    (refuted _ _ c.bars_history.ensures.1 c.if-bars_history.false)
