use Rattle.std.proofs.Common.{◌≡◌, take}
use Rattle.prefs_edit.proofs.edit.copy_of_steps.Given as goal

abbrev pub invariant-loop-step : goal.invariant-loop-step
invariant-loop-step l = l.copy.items ≡ take l.step-index l.steps
