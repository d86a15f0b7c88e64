use Rattle.script_words.specs.Words.{texts_at}
use Rattle.script_lang.proofs.FaultRows.{fuse_barred, fuse_said}
use Rattle.script_lang.proofs.TestLemmas.{refuted}
use Rattle.script_lang.proofs.WordLemmas.{one_text}
use Rattle.script_lang.proofs.parsing.fault_rows.read_fuse.Goals as goal

pub returns-then-bars_faults : goal.returns-then-bars_faults
returns-then-bars_faults c =
    fuse_barred c.args.draft.now (texts_at c.args.behind.now) c.in-Some.left
    (record { word = _; row = one_text c.args.behind.now c.in-len1.len_at_least c.in-len1.len_below; is_number = c.in-Some.ensures.some })
    (c.bars_faults.ensures.0 c.if-bars_faults.true)

pub returns : goal.returns
returns c =
    fuse_said c.args.draft.now (texts_at c.args.behind.now) c.in-Some.left
    (record { word = _; row = one_text c.args.behind.now c.in-len1.len_at_least c.in-len1.len_below; is_number = c.in-Some.ensures.some })
    (refuted _ _ c.bars_faults.ensures.1 c.if-bars_faults.false)
