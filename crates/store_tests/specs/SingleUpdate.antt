-- The first update of a session, turn by turn.
use Rattle.std.specs.Prelude.{◌≡◌, ◌≢◌, ℕ, List, [], ◌∷◌, None, true}
use Rattle.store_traits.specs.declared.applied.Applied.{Applied}
use Rattle.store_traits.specs.declared.ids.CallId.{CallId}
use Rattle.store_traits.specs.declared.applied.Applied.TheVariants.{Changed}
use Rattle.hist_journal.specs.declared.seen.BaseSeen.{BaseSeen}
use Rattle.hist_journal.specs.declared.seen.BaseSeen.TheVariants.{Held}
use Rattle.hist_journal.specs.declared.seen.EntrySeen.{EntrySeen}
use Rattle.hist_journal.specs.declared.seen.KindSeen.{KindSeen}
use Rattle.hist_journal.specs.declared.seen.KindSeen.TheVariants.{Inited, Raise, Edit, Same, Synced}
use Rattle.hist_journal.specs.Folds.{value_of}
use Rattle.shelf.specs.AddsNode.{is_among}
use Rattle.shelf.specs.declared.store.Store.{Store}
use Rattle.shelf.specs.Plans.{Writes}
use Rattle.shelf.specs.ShelfSeen.{ShelfSeen}
use Rattle.shelf.specs.ShelfTurns.{Owns}
use Rattle.shelf.specs.Rules.{Rules}

module _ {V T : Type 0} (call : CallId) where
  abbrev pub entry : KindSeen V T → EntrySeen V T
  entry kind = record { who = call; kind = kind }

  abbrev pub initialised : List (EntrySeen V T)
  initialised = entry (Inited call.node) ∷ []

  abbrev pub raised : List (EntrySeen V T)
  raised = entry (Inited call.node) ∷ entry Raise ∷ []

  abbrev pub changed : T → List (EntrySeen V T)
  changed edit = entry (Inited call.node) ∷ entry Raise ∷ entry (Edit edit) ∷ []

  abbrev pub written : T → List (EntrySeen V T)
  written edit = entry (Inited call.node) ∷ entry Raise ∷ entry (Edit edit) ∷ entry Synced ∷ []

  abbrev pub kept : T → List (EntrySeen V T)
  kept edit = entry (Inited call.node) ∷ entry (Same edit) ∷ entry Synced ∷ []

module _ {C F V T : Type 0} where
  -- nothing has happened yet, and the node of the call is there
  pub record IsFresh (call : CallId) (s : ShelfSeen C F V T) : Type 0 where
    pub list_is : s.list ≡ []
    pub owner : s.owner ≡ None
    pub node : is_among call.node s.store.nodes ≡ true

  -- the lock is free, the history is this one, and the store is that of before
  pub record Rests (list : List (EntrySeen V T)) (old new : ShelfSeen C F V T) : Type 0 where
    pub list_is : new.list ≡ list
    pub owner : new.owner ≡ None
    pub store : new.store ≡ old.store

  -- the call owns the lock, with room for an update, and nothing is told but that its node is initialised
  pub record Holds (call : CallId) (s : ShelfSeen C F V T) : Type 0 where
    pub owns : Owns call s
    pub room : s.room ≡ 3
    pub list_is : s.list ≡ initialised call
    pub node : is_among call.node s.store.nodes ≡ true

  -- the same behind the Raise
  pub record IsRaised (call : CallId) (s : ShelfSeen C F V T) : Type 0 where
    pub owns : Owns call s
    pub room : s.room ≡ 2
    pub list_is : s.list ≡ raised call
    pub node : is_among call.node s.store.nodes ≡ true

-- the transform makes this value of what main reads as, which is another
pub record ChangesTo {V T : Type 0} (after : T → V → Applied V) (base : BaseSeen V) (t : T) (new : V) : Type 0 where
  pub old : V
  pub held : base ≡ Held old
  pub makes : after t old ≡ Changed new
  pub differs : new ≢ old

-- the plan is the text of the value that the transform makes
pub record Makes {V T M : Type 0} (r : Rules V T) (IsValue : V → Type 0) (s : Store V M) (list : List (EntrySeen V T)) (t : T) (plan : List ℕ) : Type 0 where
  pub new : V
  pub changes : ChangesTo r.meanings.after (value_of r.meanings.after s.base list) t new
  pub writes : Writes r IsValue s new plan
