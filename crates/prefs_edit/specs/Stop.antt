-- Why a step may stop: its definition refuses with that code, or memory is wanting.
use Rattle.std.specs.Prelude.{◌≡◌}
use Rattle.store_traits.specs.declared.applied.Applied.TheVariants.{Refused}
use Rattle.prefs_edit.specs.declared.stop.Stop.{Stop}
use Rattle.prefs_edit.specs.declared.stop.Stop.TheVariants.{NoMemory, Code}
use Rattle.prefs_edit.specs.Step.{Outcome}

abbrev pub IsStopOf : Outcome → Stop → Type 0
IsStopOf outcome NoMemory = Unit {0}
IsStopOf outcome (Code code) = outcome ≡ Refused code
