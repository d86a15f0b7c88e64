-- The lock is taken with room for the holding.
use Rattle.std.specs.Prelude.{◌≡◌, ◌⊎◌, ◌<◌, ◌≤◌, ℕ, Bool, true, false, not, [], length, Some}
use Rattle.store_traits.specs.declared.ids.CallId.{CallId}
use Rattle.file_lock.specs.Owner.{IsAnother}
use Rattle.hist_journal.specs.Nodes.{is_ready}
use Rattle.shelf.specs.declared.answers.Taken.{Taken}
use Rattle.shelf.specs.declared.answers.Taken.TheVariants as taken
use Rattle.shelf.specs.declared.answers.Want.{Want}
use Rattle.shelf.specs.declared.answers.Want.TheVariants.{Update, Read}
use Rattle.shelf.specs.Ledger.{LedgerSeen, Enters}

-- a read of a node that is initialised does without the lock where another call owns it, and no bound of the history holds it up
abbrev pub needs_lock : Want → (ready : Bool) → Bool
needs_lock Update ready = true
needs_lock Read ready = not ready

-- the most entries that a holding can add: an Inited or a Fault; of an update a Raise, an Edit and a Synced or a Fault; of a read a Fault
abbrev pub most_entries : Want → (ready : Bool) → ℕ
most_entries want false = 1
most_entries Update true = 3
most_entries Read true = 1

module _ {V T : Type 0} (call : CallId) (want : Want) where
  -- neither the entries nor the weight have reached their bound
  pub record HasSpace (l : LedgerSeen V T) : Type 0 where
    pub entries : length l.list < l.bounds.entries
    pub weight : l.weight < l.bounds.weight

  -- one of them has, with these numbers
  pub record HasNone (entries weight : ℕ) (l : LedgerSeen V T) : Type 0 where
    pub entries_now : entries ≡ length l.list
    pub weight_now : weight ≡ l.weight
    pub bound : (l.bounds.entries ≤ entries) ⊎ (l.bounds.weight ≤ weight)

  abbrev pub is_ready_in : LedgerSeen V T → Bool
  is_ready_in l = is_ready call.node l.list

  -- the call has to own the lock
  abbrev pub must_lock : LedgerSeen V T → Bool
  must_lock l = needs_lock want (is_ready_in l)

  -- another call owns the lock
  abbrev pub IsTaken : LedgerSeen V T → Type 0
  IsTaken l = IsAnother l.owner call

  -- no other call owns the lock, and this one does now, with room for what its holding can add; its node is initialised, or is not
  pub record TakesLock (ready : Bool) (old new : LedgerSeen V T) : Type 0 where
    pub free : IsTaken old → ⊥
    pub space : must_lock old ≡ true → HasSpace old
    pub readiness : is_ready_in old ≡ ready
    pub after : Enters call [] 0 (Some call) (most_entries want ready) old new

  -- nothing changes
  abbrev pub Stays : LedgerSeen V T → LedgerSeen V T → Type 0
  Stays old new = new ≡ old

  abbrev pub TakeRow : Taken → LedgerSeen V T → LedgerSeen V T → Type 0
  TakeRow taken.Init old new = TakesLock false old new
  TakeRow taken.Held old new = TakesLock true old new
  TakeRow taken.Unlocked old new = IsTaken old × (must_lock old ≡ false) × Stays old new
  TakeRow taken.Blocked old new = IsTaken old × (must_lock old ≡ true) × Stays old new
  TakeRow (taken.HistoryFull entries weight) old new = (IsTaken old → ⊥) × (must_lock old ≡ true) × HasNone entries weight old × Stays old new
  TakeRow taken.NoMemory old new = (must_lock old ≡ true → (IsTaken old → ⊥) × HasSpace old) × Stays old new
