-- A node is added to a store.
use Rattle.std.specs.Prelude.{◌≡◌, Bool, true, false, List, [], ◌∷◌, ◌++◌}
use Rattle.std.specs.List.{list_any}
use Rattle.store_traits.specs.declared.ids.NodeId.{NodeId}
use Rattle.hist_journal.specs.Kinds.{is_node}
use Rattle.shelf.specs.declared.answers.AddNodeError.{AddNodeError}
use Rattle.shelf.specs.declared.answers.AddNodeError.TheVariants.{Exists, NoMemory}
use Rattle.shelf.specs.Ledger.{LedgerSeen}

abbrev pub is_among : NodeId → List NodeId → Bool
is_among node nodes = list_any (λ known. is_node known node) nodes

-- it is new, and is the last one now
pub record AddsNode {V T : Type 0} (node : NodeId) (old new : LedgerSeen V T) : Type 0 where
  pub is_new : is_among node old.nodes ≡ false
  pub after : new ≡ record old { nodes = old.nodes ++ node ∷ [] }

-- it is there already, or there was no memory and it is not
abbrev pub RefusesNode : NodeId → List NodeId → AddNodeError → Type 0
RefusesNode node nodes Exists = is_among node nodes ≡ true
RefusesNode node nodes NoMemory = is_among node nodes ≡ false
