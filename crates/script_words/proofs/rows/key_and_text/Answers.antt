-- The second word quotes no text.
use Rattle.std.proofs.lemmas.Result.{err_from_is_err_and}
use Rattle.script_words.proofs.Refusals.{passed_on}
use Rattle.script_words.proofs.RowLemmas.{no_text}
use Rattle.script_words.proofs.rows.key_and_text.Goals as goal

pub returns-in_err-text-clause-err : goal.returns-in_err-text-clause-err
returns-in_err-text-clause-err c =
    let p = err_from_is_err_and c.from_residual-in_err-text.result c.from_residual-in_err-text.ensures.1 in
    rw (p.1, p.2) (passed_on _ _ c.in_err-text.field-0.0 (no_text c.args.words.now _ c.in-len2.len_at_least c.in-len2.len_below) c.in_err-text.ensures.err)
