use Rattle.std.proofs.Common.{◌≡◌, take}
use Rattle.shelf.specs.declared.store.PlannedDeath.{PlannedDeath}
use Rattle.shelf.specs.DeathPlan.{is_one_of}
use Rattle.shelf.proofs.death_plan.DeathPlan.new.Given as goal

abbrev pub invariant-loop-death : goal.invariant-loop-death
invariant-loop-death l = (q : PlannedDeath) → is_one_of l.left.keys q ≡ is_one_of (take l.death-index l.fn.planned.items) q
