-- The words are no steps, or their steps are no edit.
use Rattle.std.proofs.lemmas.Result.{err_from_is_err_and}
use Rattle.script_words.specs.Words.{texts_at}
use Rattle.script_words.proofs.EditFaults.{refused_edit, unspelled_edit}
use Rattle.script_words.proofs.edit.edit_of.Goals as goal

pub returns-in_err-steps-clause-err : goal.returns-in_err-steps-clause-err
returns-in_err-steps-clause-err c =
    let p = err_from_is_err_and c.from_residual.result c.from_residual.ensures.1 in
    rw (p.1, p.2) (unspelled_edit (texts_at c.args.words.now) c.in_err-steps.field-0.0 c.in_err-steps.ensures.err)

pub returns-in_err-new-clause-err : goal.returns-in_err-new-clause-err
returns-in_err-new-clause-err c =
    let p = err_from_is_err_and c.from_residual-in_err-new.result c.from_residual-in_err-new.ensures.1 in
    rw (p.1, p.2) (refused_edit (texts_at c.args.words.now) c.in_ok-steps.steps.items c.in_err-new.field-0.0 c.in_ok-steps.ensures.ok c.in_err-new.ensures.refused)
