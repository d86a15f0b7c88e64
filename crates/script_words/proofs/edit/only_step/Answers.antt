-- The words are no step, and have no unknown word.
use Rattle.std.proofs.Common.{rules}
use Rattle.std.proofs.lemmas.Result.{err_from_is_err_and}
use Rattle.script_words.specs.Unknown.{HasUnknownWord}
use Rattle.script_words.specs.Words.{texts_at}
use Rattle.script_words.proofs.StepLists.{no_only_step}
use Rattle.script_words.proofs.edit.only_step.Goals as goal

pub returns-in_err-step_of-clause-err : goal.returns-in_err-step_of-clause-err
returns-in_err-step_of-clause-err c =
    let p = err_from_is_err_and c.from_residual.result c.from_residual.ensures.1 in
    let known : HasUnknownWord (texts_at c.args.words.now) → ⊥ = search rules in
    rw (p.1, p.2) (no_only_step (texts_at c.args.words.now) c.in_err-step_of.field-0.0 known c.in_err-step_of.ensures.err)
