-- The steps between the raise of the version and the value change.
use Rattle.std.specs.Prelude.{Bool, true, false}
use Rattle.store_traits.specs.declared.step.Step.{Step}
use Rattle.store_traits.specs.declared.step.Step.TheVariants.{U4, U5, U6, U7}

abbrev pub is_writing : Step → Bool
is_writing U4 = true
is_writing U5 = true
is_writing U6 = true
is_writing U7 = true
is_writing other = false
