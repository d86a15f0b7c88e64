use Rattle.std.proofs.Common.{◌≡◌, take}
use Rattle.store_traits.specs.declared.applied.Applied.TheVariants.{Changed}
use Rattle.prefs_edit.specs.After.{after_steps}
use Rattle.prefs_edit.proofs.apply.apply_steps.Given as goal

-- the steps so far make this map
abbrev pub invariant-loop-step : goal.invariant-loop-step
invariant-loop-step l = after_steps (take l.step-index l.steps) l.fn.old ≡ Changed l.map
