-- Which entries a node that is initialised may have, and which one that is not.
use Rattle.std.specs.Prelude.{◌≡◌, true, false, List}
use Rattle.store_traits.specs.declared.ids.CallId.{CallId}
use Rattle.store_traits.specs.declared.ids.NodeId.{NodeId}
use Rattle.hist_journal.specs.declared.seen.BaseSeen.{BaseSeen}
use Rattle.hist_journal.specs.declared.seen.BaseSeen.TheVariants.{Held}
use Rattle.hist_journal.specs.declared.seen.EntrySeen.{EntrySeen}
use Rattle.hist_journal.specs.declared.seen.KindSeen.{KindSeen}
use Rattle.hist_journal.specs.declared.seen.KindSeen.TheVariants.{Edit, Same, Migrate, Cleared, Inited}
use Rattle.hist_journal.specs.Nodes.{is_ready}

-- `value` is the value before the entry
module _ {V T : Type 0} (value : BaseSeen V) (before : List (EntrySeen V T)) where
  abbrev pub IsReady : CallId → Type 0
  IsReady who = is_ready who.node before ≡ true

  abbrev pub IsUnready : CallId → Type 0
  IsUnready who = is_ready who.node before ≡ false

  -- an Inited names the node of its call, which was not ready, and there is a value
  pub record Initialises (who : CallId) (node : NodeId) : Type 0 where
    pub named : node ≡ who.node
    pub unready : IsUnready who
    pub readable : V
    pub held : value ≡ Held readable

  -- updates are of ready nodes, and what initialises of others
  abbrev pub KeepsReadiness : CallId → KindSeen V T → Type 0
  KeepsReadiness who (Edit t) = IsReady who
  KeepsReadiness who (Same t) = IsReady who
  KeepsReadiness who (Migrate names v) = IsUnready who
  KeepsReadiness who (Cleared name) = IsUnready who
  KeepsReadiness who (Inited node) = Initialises who node
  KeepsReadiness who other = Unit {0}
