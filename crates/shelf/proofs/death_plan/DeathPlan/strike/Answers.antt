use Rattle.std.proofs.Common.{List, ◌∙◌, ap}
use Rattle.std.specs.List.{list_any}
use Rattle.shelf.specs.declared.store.PlannedDeath.{PlannedDeath}
use Rattle.shelf.specs.DeathPlan.{DeathPlanSeen}
use Rattle.shelf.specs.Deaths.{strikes, used_up}
use Rattle.shelf.proofs.DeathPlanLemmas.{are_still, left_after, struck}
use Rattle.shelf.proofs.death_plan.DeathPlan.strike.Goals as goal

pub invariant_of-self : goal.invariant_of-self
invariant_of-self c = are_still c.args.call c.args.step _ _ _ c.remove.ensures.updates.0 c.self.invariant

pub returns-clause-struck : goal.returns-clause-struck
returns-clause-struck c = c.remove.ensures.test ∙ (struck c.args.call c.args.step _ _ c.self.invariant ∙ ap (λ (plan : DeathPlanSeen). list_any (strikes c.args.call c.args.step) plan.left) c.self.view_is)

pub returns-clause-left : goal.returns-clause-left
returns-clause-left c =
    let now =
    ap (λ (plan : DeathPlanSeen). let after : DeathPlanSeen = record { planned = plan.planned; left = used_up c.args.call c.args.step plan.left } in after) c.self.view_is in
    ap (λ (left : List PlannedDeath). let plan : DeathPlanSeen = record { planned = c.self.inside.planned.items; left = left } in plan) (left_after c.args.call c.args.step _ _ c.self.inside.planned.items c.remove.ensures.updates.0) ∙ now
