-- What contracts see of a ledger, and what its calls leave of it.
use Rattle.std.specs.Prelude.{◌≡◌, ◌==◌, ◌+◌, ◌-◌, ◌^◌, ℕ, min, Bool, true, false, List, Option, Some, None, if◌then◌else◌}
use Rattle.store_traits.specs.declared.ids.CallId.{CallId}
use Rattle.store_traits.specs.declared.ids.NodeId.{NodeId}
use Rattle.hist_journal.specs.declared.bounds.Bounds.{Bounds}
use Rattle.hist_journal.specs.declared.seen.BaseSeen.{BaseSeen}
use Rattle.hist_journal.specs.declared.seen.EntrySeen.{EntrySeen}
use Rattle.hist_journal.specs.declared.seen.KindSeen.{KindSeen}
use Rattle.hist_journal.specs.declared.seen.KindSeen.TheVariants.{Raise, Edit, Same, Replace, Migrate, Synced}
use Rattle.hist_journal.specs.Kinds.{is_call}
use Rattle.shelf.specs.declared.ledger.Ledger.{Ledger}
use Rattle.shelf.specs.Entries.{with_entries}
use Rattle.shelf.specs.NodeStates.{ids}

-- `room` is how many entries the owner of the lock may still add
pub record LedgerSeen (V T : Type 0) : Type 0 where
  pub base : BaseSeen V
  pub bounds : Bounds
  pub nodes : List NodeId
  pub list : List (EntrySeen V T)
  pub weight : ℕ
  pub owner : Option CallId
  pub room : ℕ

-- the owner once this call owns nothing
abbrev pub freed : CallId → Option CallId → Option CallId
freed call None = None
freed call (Some owner) = if is_call call owner then None else Some owner

-- the room of the owner once this call owns nothing
abbrev pub freed_room : CallId → Option CallId → ℕ → ℕ
freed_room call None room = room
freed_room call (Some owner) room = if is_call call owner then 0 else room

-- the room of the owner once the calls of this node own nothing
abbrev pub freed_node_room : NodeId → Option CallId → ℕ → ℕ
freed_node_room node None room = room
freed_node_room node (Some owner) room = if owner.node.0 == node.0 then 0 else room

module _ {V T : Type 0} where
  abbrev pub ledger_seen : Ledger V T → LedgerSeen V T
  ledger_seen l =
      record {
        base = l.journal.base;
        bounds = l.journal.bounds;
        nodes = ids l.nodes;
        list = l.journal.list;
        weight = l.journal.weight;
        owner = l.lock;
        room = l.reserved;
      }

  -- these entries of the call are added, of such a weight; the lock is this one's, and so much room is the owner's
  pub record Enters (call : CallId) (kinds : List (KindSeen V T)) (added : ℕ) (owner_after : Option CallId) (room_after : ℕ) (old new : LedgerSeen V T) : Type 0 where
    pub base : new.base ≡ old.base
    pub bounds : new.bounds ≡ old.bounds
    pub nodes : new.nodes ≡ old.nodes
    pub list : new.list ≡ with_entries call kinds old.list
    pub weight : new.weight ≡ min (old.weight + added) (2 ^ 64 - 1)
    pub owner : new.owner ≡ owner_after
    pub room : new.room ≡ room_after

  -- what the owner adds between taking the lock and freeing it
  abbrev pub is_inner : KindSeen V T → Bool
  is_inner Raise = true
  is_inner (Edit t) = true
  is_inner (Same t) = true
  is_inner (Replace v) = true
  is_inner (Migrate names v) = true
  is_inner Synced = true
  is_inner other = false
