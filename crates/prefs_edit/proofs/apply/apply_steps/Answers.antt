use Rattle.std.proofs.Common.{sym, ◌∙◌, ap}
use Rattle.store_traits.specs.declared.applied.Applied.TheVariants.{Changed}
use Rattle.prefs_edit.specs.After.{after_steps}
use Rattle.prefs_edit.specs.Step.{after_step}
use Rattle.prefs_edit.proofs.Turns.{after_steps-next, after_steps-refused}
use Rattle.prefs_edit.proofs.apply.apply_steps.Goals as goal

-- the map to begin with is the old one
pub loop-step-init : goal.loop-step-init
unfolding after_steps
loop-step-init c = ap Changed (sym c.in_ok-map.ensures)

pub loop-step-preserved : goal.loop-step-preserved
loop-step-preserved c =
    after_steps-next c.args.steps.now c.loop-step.step-index c.step-item.result c.args.old.now c.loop-step.map c.loop-step-test.true c.loop-step.invariant
    ∙ ap (λ step. after_step step c.loop-step.map) (sym c.step-item.is)
    ∙ c.in-Ok.ensures.changed

-- the step that refuses is the first
pub returns-in-Err-Code : goal.returns-in-Err-Code
returns-in-Err-Code c =
    let refused = ap (λ step. after_step step c.loop-step.map) (sym c.step-item.is) ∙ rw c.in-Err-Code.field-0-is at c.in-Err-Code.ensures.stopped in
    rw c.in-Err-Code.field-0-is (sym (after_steps-refused c.args.steps.now c.loop-step.step-index c.step-item.result c.args.old.now c.loop-step.map c.in-Err-Code.code c.loop-step-test.true c.loop-step.invariant refused))
