-- What others may add to the history while a call is in progress.
use Rattle.std.specs.Prelude.{◌≡◌, Bool, true, false, List}
use Rattle.std.specs.List.{list_all, list_any}
use Rattle.store_traits.specs.declared.ids.CallId.{CallId}
use Rattle.store_traits.specs.declared.ids.NodeId.{NodeId}
use Rattle.hist_journal.specs.declared.seen.EntrySeen.{EntrySeen}
use Rattle.hist_journal.specs.declared.seen.KindSeen.{KindSeen}
use Rattle.hist_journal.specs.declared.seen.KindSeen.TheVariants.{Fault, Death, Restart}
use Rattle.hist_journal.specs.Kinds.{is_death_of}
use Rattle.shelf.specs.Entries.{is_any, is_own}

module _ {V T : Type 0} where
  -- what others may add while a call owns the lock: a Fault, a Death or a Restart
  abbrev pub is_outer : KindSeen V T → Bool
  is_outer (Fault device count) = true
  is_outer (Death node) = true
  is_outer (Restart node) = true
  is_outer other = false

  -- all of them are
  abbrev pub are_outer : List (EntrySeen V T) → Bool
  are_outer list = list_all (λ e. is_outer e.kind) list

  -- none of the entries is of this call
  abbrev pub NoneOf : CallId → List (EntrySeen V T) → Type 0
  NoneOf call list = list_any (is_own is_any call) list ≡ false

  -- none of them is a Death of this node
  abbrev pub NoDeathOf : NodeId → List (EntrySeen V T) → Type 0
  NoDeathOf node list = list_any (λ e. is_death_of node e.kind) list ≡ false
