-- A part is a step, or the parts are no steps.
use Rattle.std.proofs.Common.{◌≡◌, ◌+◌, [], ◌∷◌, ◌++◌, take, sym, subst, rules}
use Rattle.std.specs.List.{AllZip}
use Rattle.std.proofs.lemmas.Result.{err_from_is_err_and}
use Rattle.script_words.specs.Parts.{parts_at}
use Rattle.script_words.specs.StepWords.{AreStepWords}
use Rattle.script_words.proofs.Refusals.{passed_on}
use Rattle.script_words.proofs.StepLists.{no_steps, steps_more}
use Rattle.script_words.proofs.edit.steps_of_parts.Goals as goal

pub returns-in_err-step_of-clause-err : goal.returns-in_err-step_of-clause-err
returns-in_err-step_of-clause-err c =
    let p = err_from_is_err_and c.from_residual.result c.from_residual.ensures.1 in
    rw (p.1, p.2) (passed_on _ _ c.in_err-step_of.field-0.0 (no_steps c.args.parts.now c.loop-part.part-index _ c.loop-part-test.true) c.in_err-step_of.ensures.err)

pub loop-part-preserved : goal.loop-part-preserved
loop-part-preserved c =
    let pushed : c.push.new.self.items ≡ c.loop-part.steps.items ++ c.in_ok-step_of.field-0 ∷ [] = search rules in
    subst (λ steps. AllZip AreStepWords (parts_at (take (c.loop-part.part-index + 1) c.args.parts.now)) steps) (sym pushed)
    (steps_more c.args.parts.now c.loop-part.steps.items c.loop-part.part-index _ c.in_ok-step_of.field-0 c.loop-part-test.true c.loop-part.invariant c.in_ok-step_of.ensures.ok)
