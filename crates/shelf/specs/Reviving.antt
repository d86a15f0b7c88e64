-- What comes of a restart, in a ledger.
use Rattle.std.specs.Prelude.{◌≡◌, ◌+◌, ℕ, true, false, [], ◌∷◌, length, Option, Result, Ok, Err}
use Rattle.store_traits.specs.declared.ids.CallId.{CallId}
use Rattle.store_traits.specs.declared.ids.NodeId.{NodeId}
use Rattle.hist_journal.specs.declared.seen.KindSeen.TheVariants.{Restart}
use Rattle.hist_journal.specs.Nodes.{is_dead}
use Rattle.shelf.specs.declared.answers.RestartError.{RestartError}
use Rattle.shelf.specs.declared.answers.RestartError.TheVariants.{Died, NotDead, NoMemory}
use Rattle.shelf.specs.Ledger.{Enters, LedgerSeen}

-- the node lives again from this place on; or it is not dead; or there is no room to tell of it
module _ {V T : Type 0} (call : CallId) (node : NodeId) (owner_after : Option CallId) (room_after : ℕ) where
  abbrev pub ReviveRow : Result ℕ RestartError → LedgerSeen V T → LedgerSeen V T → Type 0
  ReviveRow (Ok place) old new = Enters call (Restart node ∷ []) 0 owner_after room_after old new × (is_dead node old.list ≡ true) × (place ≡ length old.list + 1)
  ReviveRow (Err (Died place)) old new = ⊥
  ReviveRow (Err NotDead) old new = Enters call [] 0 owner_after room_after old new × (is_dead node old.list ≡ false)
  ReviveRow (Err NoMemory) old new = Enters call [] 0 owner_after room_after old new × (is_dead node old.list ≡ true)
