use Rattle.script_words.specs.Words.{texts_at}
use Rattle.script_lang.proofs.StartRows.{file_barred, file_said, file_row}
use Rattle.script_lang.proofs.TestLemmas.{refuted}
use Rattle.script_lang.proofs.WordLemmas.{one_text}
use Rattle.script_lang.proofs.parsing.start_rows.read_file.Goals as goal

pub returns-then-bars_file : goal.returns-then-bars_file
returns-then-bars_file c =
    file_barred c.args.draft.now (texts_at c.args.behind.now) c.in-Some.main
    (file_row (one_text c.args.behind.now c.in-len1.len_at_least c.in-len1.len_below) (rw c.in-Some.is at c.in_ok-main.ensures.some))
    (c.bars_file.ensures.0 c.if-bars_file.true)

pub returns : goal.returns
returns c =
    file_said c.args.draft.now (texts_at c.args.behind.now) c.in-Some.main
    (file_row (one_text c.args.behind.now c.in-len1.len_at_least c.in-len1.len_below) (rw c.in-Some.is at c.in_ok-main.ensures.some))
    (refuted _ _ c.bars_file.ensures.1 c.if-bars_file.false)
