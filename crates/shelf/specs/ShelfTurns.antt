-- What a turn asks of a shelf, and what it leaves of it, in the words that the turns share.
use Rattle.std.specs.Prelude.{◌≡◌, ◌+◌, ◌-◌, ℕ, List, [], ◌∷◌, ◌++◌, length, Option, Some}
use Rattle.store_traits.specs.declared.applied.Applied.{Applied}
use Rattle.store_traits.specs.declared.ids.CallId.{CallId}
use Rattle.hist_journal.specs.declared.device.Device.TheVariants.{Folder}
use Rattle.hist_journal.specs.declared.seen.EntrySeen.{EntrySeen}
use Rattle.hist_journal.specs.declared.seen.KindSeen.{KindSeen}
use Rattle.hist_journal.specs.declared.seen.KindSeen.TheVariants.{Fault}
use Rattle.hist_journal.specs.Quiet.{pending}
use Rattle.shelf.specs.declared.store.Store.{Store}
use Rattle.shelf.specs.Ledger.{freed, freed_room}
use Rattle.shelf.specs.Entries.{with_entries}
use Rattle.shelf.specs.FaultCounts.{RaisesCount}
use Rattle.shelf.specs.Legal.{Fits}
use Rattle.shelf.specs.Meanings.{Meanings}
use Rattle.shelf.specs.ShelfSeen.{ShelfSeen}

module _ {V T M : Type 0} (m : Meanings V T) (s : Store V M) (call : CallId) where
  -- entries of these kinds fit one behind another
  abbrev pub FitInTurn : List (KindSeen V T) → List (EntrySeen V T) → Type 0
  FitInTurn [] list = Unit {0}
  FitInTurn (kind ∷ kinds) list = Fits m s list (record { who = call; kind = kind }) × FitInTurn kinds (list ++ record { who = call; kind = kind } ∷ [])

  -- a Fault of the folder fits, whatever its count, if that rose
  abbrev pub FaultFits : List (EntrySeen V T) → Type 0
  FaultFits list = (count : ℕ) → RaisesCount s list (Fault Folder count) → Fits m s list (record { who = call; kind = Fault Folder count })

module _ {C F V T : Type 0} where
  abbrev pub Owns : CallId → ShelfSeen C F V T → Type 0
  Owns call s = s.owner ≡ Some call

  -- the last entry of the call is a Raise, which is still open
  abbrev pub IsRaised : CallId → ShelfSeen C F V T → Type 0
  IsRaised call s = pending s.list ≡ Some call

  -- `after` is what transforms make of a value; these entries of the call keep the history lawful
  abbrev pub May : (T → V → Applied V) → CallId → List (KindSeen V T) → ShelfSeen C F V T → Type 0
  May after call kinds s = FitInTurn (record { after = after }) s.store call kinds s.list

  -- and so does a Fault
  abbrev pub MayFault : (T → V → Applied V) → CallId → ShelfSeen C F V T → Type 0
  MayFault after call s = FaultFits (record { after = after }) s.store call s.list

  -- these entries of the call are added, the lock is this one's, and so much room is the owner's; all else is as it was, but for what the turn does to the folder
  pub record Leaves (call : CallId) (kinds : List (KindSeen V T)) (owner_after : Option CallId) (room_after : ℕ) (old new : ShelfSeen C F V T) : Type 0 where
    pub list : new.list ≡ with_entries call kinds old.list
    pub owner : new.owner ≡ owner_after
    pub room : new.room ≡ room_after
    pub deaths : new.deaths ≡ old.deaths
    pub codec : new.codec ≡ old.codec
    pub store : new.store ≡ old.store

  -- these entries of the owner are added, and it still owns the lock
  abbrev pub Adds : CallId → List (KindSeen V T) → ShelfSeen C F V T → ShelfSeen C F V T → Type 0
  Adds call kinds old new = Leaves call kinds old.owner (old.room - length kinds) old new

  -- these entries of the call are added, and it owns nothing
  abbrev pub Frees : CallId → List (KindSeen V T) → ShelfSeen C F V T → ShelfSeen C F V T → Type 0
  Frees call kinds old new = Leaves call kinds (freed call old.owner) (freed_room call old.owner old.room) old new

  -- the Fault of the folder with this count is the entry at this place, and the call owns nothing
  pub record Faults (call : CallId) (count at : ℕ) (old new : ShelfSeen C F V T) : Type 0 where
    pub place : at ≡ length old.list + 1
    pub leaves : Frees call (Fault Folder count ∷ []) old new
