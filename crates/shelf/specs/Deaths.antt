-- When the node of a call has died, and when it is to die.
use Rattle.std.specs.Prelude.{ℕ, ◌+◌, ◌==◌, Bool, false, ◌&&◌, ◌||◌, not, List, [], ◌∷◌, drop, filter, Option, Some, None, option_map, if◌then◌else◌}
use Rattle.std.specs.List.{list_any}
use Rattle.std.specs.Option.{option_or}
use Rattle.store_traits.specs.declared.ids.CallId.{CallId}
use Rattle.store_traits.specs.declared.ids.NodeId.{NodeId}
use Rattle.store_traits.specs.declared.step.Step.{Step}
use Rattle.store_traits.specs.declared.step.Step.TheVariants.{I1, I2, I3, I4, I5, I6, U1, U2, U3, U4, U5, U6, U7, U8, V1, V2, V3, P1, P2, R1}
use Rattle.hist_journal.specs.declared.seen.EntrySeen.{EntrySeen}
use Rattle.hist_journal.specs.Kinds.{is_call, is_death_of}
use Rattle.hist_journal.specs.Nodes.{is_dead}
use Rattle.shelf.specs.declared.store.PlannedDeath.{PlannedDeath}

module _ {V T : Type 0} where
  -- the place of the node's last Death, counted from 1
  unfoldable pub last_death : NodeId → List (EntrySeen V T) → Option ℕ
  last_death node [] = None
  last_death node (e ∷ es) = option_or (option_map (λ at. at + 1) (last_death node es)) (if is_death_of node e.kind then Some 1 else None)

  -- the node died behind so many entries
  abbrev pub died_since : NodeId → Option ℕ → List (EntrySeen V T) → Bool
  died_since node None list = false
  died_since node (Some since) list = list_any (λ e. is_death_of node e.kind) (drop since list)

  -- the node is dead, or has died since
  abbrev pub has_died : NodeId → Option ℕ → List (EntrySeen V T) → Bool
  has_died node since list = is_dead node list || died_since node since list

abbrev pub step_number : Step → ℕ
step_number I1 = 1
step_number I2 = 2
step_number I3 = 3
step_number I4 = 4
step_number I5 = 5
step_number I6 = 6
step_number U1 = 7
step_number U2 = 8
step_number U3 = 9
step_number U4 = 10
step_number U5 = 11
step_number U6 = 12
step_number U7 = 13
step_number U8 = 14
step_number V1 = 15
step_number V2 = 16
step_number V3 = 17
step_number P1 = 18
step_number P2 = 19
step_number R1 = 20

-- a first turn of a call whose node is not initialised begins to initialise it
abbrev pub turn_step : (ready : Bool) → Step → Step
turn_step false U1 = I1
turn_step false V2 = I1
turn_step ready step = step

-- the death is planned for this call before this step
abbrev pub strikes : CallId → Step → PlannedDeath → Bool
strikes call step death = is_call call death.call && (step_number step == step_number death.step)

-- the deaths that are left once this one is used up
abbrev pub used_up : CallId → Step → List PlannedDeath → List PlannedDeath
used_up call step deaths = filter (λ death. not (strikes call step death)) deaths
