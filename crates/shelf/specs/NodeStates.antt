-- The nodes of a store, and what is known of each.
use Rattle.std.specs.Prelude.{ℕ, nat_lt, Bool, true, false, not, List, [], ◌∷◌, map, Option, Some, None, if◌then◌else◌}
use Rattle.std.specs.List.{count_by, find, list_any}
use Rattle.store_traits.specs.declared.ids.NodeId.{NodeId}
use Rattle.hist_journal.specs.Kinds.{is_node}
use Rattle.shelf.specs.declared.node_table.NodeState.{NodeState}

abbrev pub ids : List NodeState → List NodeId
ids states = map (λ state. state.id) states

-- the node is one of the store
abbrev pub has_node : NodeId → List NodeState → Bool
has_node node states = list_any (λ state. is_node state.id node) states

-- what is known of the node, if it is one of the store: the first of its name
abbrev pub state_of : NodeId → List NodeState → Option NodeState
state_of node states = find (λ state. is_node state.id node) states

abbrev pub ready_by : Option NodeState → Bool
ready_by None = false
ready_by (Some state) = state.is_ready

abbrev pub dead_by : Option NodeState → Bool
dead_by None = false
dead_by (Some state) = state.is_dead

abbrev pub died_by : Option NodeState → Option ℕ
died_by None = None
died_by (Some state) = state.died

-- it died behind so many entries
abbrev pub died_behind : (since died : Option ℕ) → Bool
died_behind (Some since) (Some place) = nat_lt since place
died_behind since died = false

-- the node is initialised
abbrev pub has_ready : NodeId → List NodeState → Bool
has_ready node states = ready_by (state_of node states)

-- the node is dead
abbrev pub has_dead : NodeId → List NodeState → Bool
has_dead node states = dead_by (state_of node states)

-- where the node's last Death stands
abbrev pub death_place : NodeId → List NodeState → Option ℕ
death_place node states = died_by (state_of node states)

-- how many of them are not dead
abbrev pub living : List NodeState → ℕ
living states = count_by (λ state. not state.is_dead) states

-- the states once that of the node is changed so
abbrev pub changed : NodeId → (NodeState → NodeState) → List NodeState → List NodeState
changed node change [] = []
changed node change (state ∷ states) = if is_node state.id node then change state ∷ states else state ∷ changed node change states

abbrev pub initialised : NodeState → NodeState
initialised state = record { id = state.id; is_ready = true; is_dead = state.is_dead; died = state.died }

-- it dies by the entry at this place
abbrev pub killed : ℕ → NodeState → NodeState
killed place state = record { id = state.id; is_ready = false; is_dead = true; died = Some place }

abbrev pub revived : NodeState → NodeState
revived state = record { id = state.id; is_ready = state.is_ready; is_dead = false; died = state.died }
