-- Only living nodes act, die where they act, and are brought back by others.
use Rattle.std.specs.Prelude.{◌≡◌, true, false, List}
use Rattle.store_traits.specs.declared.ids.CallId.{CallId}
use Rattle.hist_journal.specs.declared.seen.EntrySeen.{EntrySeen}
use Rattle.hist_journal.specs.declared.seen.KindSeen.{KindSeen}
use Rattle.hist_journal.specs.declared.seen.KindSeen.TheVariants.{Death, Restart}
use Rattle.hist_journal.specs.Nodes.{is_dead}

module _ {V T : Type 0} (before : List (EntrySeen V T)) where
  -- a Death names the node of its call, and a Restart a node that is dead
  abbrev pub NamesNode : CallId → KindSeen V T → Type 0
  NamesNode who (Death node) = node ≡ who.node
  NamesNode who (Restart node) = is_dead node before ≡ true
  NamesNode who other = Unit {0}

  pub record KeepsLifetimes (e : EntrySeen V T) : Type 0 where
    -- the node of the entry's call is not dead
    pub lives : is_dead e.who.node before ≡ false
    pub named : NamesNode e.who e.kind
