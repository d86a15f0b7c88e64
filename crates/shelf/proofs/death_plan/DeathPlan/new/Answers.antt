use Rattle.std.proofs.Common.{List, ap, arith, length, ◌∙◌}
use Rattle.std.proofs.lemmas.List.{take_all}
use Rattle.shelf.specs.declared.store.PlannedDeath.{PlannedDeath}
use Rattle.shelf.specs.DeathPlan.{DeathPlanSeen, is_one_of}
use Rattle.shelf.proofs.DeathPlanLemmas.{all_left, one_of_next}
use Rattle.shelf.proofs.death_plan.DeathPlan.new.Goals as goal

pub loop-death-preserved : goal.loop-death-preserved
loop-death-preserved c = one_of_next _ _ _ _ _ _ c.deref-death-items.ensures.value c.loop-death-test.true c.in_ok-insert.ensures.updates.0 c.loop-death.invariant

pub returns : goal.returns
returns c =
    let planned = c.args.planned.items in
    ap (λ (left : List PlannedDeath). let plan : DeathPlanSeen = record { planned = planned; left = left } in plan)
    (all_left c.loop-death.left.keys planned (λ death is. c.loop-death.invariant death ∙ (ap (λ xs. is_one_of xs death) (take_all _ planned (omega (arith, ap length c.deref-death-items.ensures.value))) ∙ is)))
