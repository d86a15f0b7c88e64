-- What contracts see of the deaths that are planned for a session.
use Rattle.std.specs.Prelude.{Bool, List}
use Rattle.std.specs.List.{list_any}
use Rattle.shelf.specs.declared.store.PlannedDeath.{PlannedDeath}
use Rattle.shelf.specs.Deaths.{strikes}

-- all of them, and those that are not used up
pub record DeathPlanSeen : Type 0 where
  pub planned : List PlannedDeath
  pub left : List PlannedDeath

-- this death is one of these
abbrev pub is_one_of : List PlannedDeath → PlannedDeath → Bool
is_one_of deaths death = list_any (strikes death.call death.step) deaths
