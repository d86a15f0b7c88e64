-- Of which kind an entry is.
use Rattle.std.specs.Prelude.{Bool, true, false, ◌==◌, ◌&&◌}
use Rattle.store_traits.specs.declared.ids.CallId.{CallId}
use Rattle.store_traits.specs.declared.ids.NodeId.{NodeId}
use Rattle.hist_journal.specs.declared.seen.KindSeen.{KindSeen}
use Rattle.hist_journal.specs.declared.seen.KindSeen.TheVariants.{Raise, Edit, Replace, Migrate, Fault, Death}

abbrev pub is_node : NodeId → NodeId → Bool
is_node a b = a.0 == b.0

abbrev pub is_call : CallId → CallId → Bool
is_call a b = is_node a.node b.node && (a.client.0 == b.client.0) && (a.number == b.number)

module _ {V T : Type 0} where
  abbrev pub is_raise : KindSeen V T → Bool
  is_raise Raise = true
  is_raise other = false

  -- a value change: what main holds becomes another value
  abbrev pub is_change : KindSeen V T → Bool
  is_change (Edit t) = true
  is_change (Replace v) = true
  is_change (Migrate names v) = true
  is_change other = false

  abbrev pub is_fault : KindSeen V T → Bool
  is_fault (Fault device count) = true
  is_fault other = false

  abbrev pub is_death_of : NodeId → KindSeen V T → Bool
  is_death_of node (Death died) = is_node node died
  is_death_of node other = false
