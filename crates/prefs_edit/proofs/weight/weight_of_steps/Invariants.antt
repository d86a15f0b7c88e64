use Rattle.std.proofs.Common.{◌≡◌, ◌-◌, ◌^◌, min, take}
use Rattle.prefs_edit.specs.Weight.{edit_weight}
use Rattle.prefs_edit.proofs.weight.weight_of_steps.Given as goal

abbrev pub invariant-loop-step : goal.invariant-loop-step
invariant-loop-step l = l.weight ≡ min (edit_weight (take l.step-index l.steps)) (2 ^ 64 - 1)
