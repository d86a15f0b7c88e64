-- Which nodes are dead, and which are ready, after a history.
use Rattle.std.specs.Prelude.{Bool, true, false, List, [], ◌∷◌, Option, Some, None, unwrap_or}
use Rattle.std.specs.Option.{option_or}
use Rattle.store_traits.specs.declared.ids.NodeId.{NodeId}
use Rattle.hist_journal.specs.declared.seen.EntrySeen.{EntrySeen}
use Rattle.hist_journal.specs.declared.seen.KindSeen.{KindSeen}
use Rattle.hist_journal.specs.declared.seen.KindSeen.TheVariants.{Inited, Death, Restart}
use Rattle.hist_journal.specs.Kinds.{is_node}

-- the mark where the entry is of this node
abbrev pub mark_if : Bool → Bool → Option Bool
mark_if true mark = Some mark
mark_if false mark = None

module _ {V T : Type 0} where
  -- the mark of the last entry that has one
  unfoldable pub last_mark : (KindSeen V T → Option Bool) → List (EntrySeen V T) → Option Bool
  last_mark mark [] = None
  last_mark mark (e ∷ es) = option_or (last_mark mark es) (mark e.kind)

  abbrev pub death_mark : NodeId → KindSeen V T → Option Bool
  death_mark node (Death died) = mark_if (is_node node died) true
  death_mark node (Restart alive) = mark_if (is_node node alive) false
  death_mark node other = None

  -- its last Death or Restart is a Death
  unfoldable pub is_dead : NodeId → List (EntrySeen V T) → Bool
  is_dead node list = unwrap_or (last_mark (death_mark node) list) false

  abbrev pub ready_mark : NodeId → KindSeen V T → Option Bool
  ready_mark node (Inited ready) = mark_if (is_node node ready) true
  ready_mark node (Death died) = mark_if (is_node node died) false
  ready_mark node other = None

  -- an Inited of it has no Death of it behind it
  unfoldable pub is_ready : NodeId → List (EntrySeen V T) → Bool
  is_ready node list = unwrap_or (last_mark (ready_mark node) list) false
