-- What holds of every turn.
use Rattle.std.specs.Prelude.{◌≡◌, ◌≢◌, ◌==◌, true, false, List, Some}
use Rattle.store_traits.specs.declared.ids.CallId.{CallId}
use Rattle.hist_journal.specs.declared.seen.KindSeen.{KindSeen}
use Rattle.hist_journal.specs.Kinds.{is_change}
use Rattle.shelf.specs.Entries.{with_entries}
use Rattle.shelf.specs.Deaths.{has_died}
use Rattle.step_table.specs.Calls.{At, Call, Writing}
use Rattle.step_table.specs.World.{Turned, World}

module _ {V T : Type 0} where
  -- where the call owns the lock, its node has not died since it began
  abbrev pub OwnsAlive : World V T → Call V T → Type 0
  OwnsAlive w call = w.owner ≡ Some call.id → has_died call.id.node call.since w.history ≡ false

  -- what the call writes, if it writes, is a value change
  abbrev pub WritesAChange : At V T → Type 0
  WritesAChange (Writing stage plan) = is_change plan.change ≡ true
  WritesAChange other = Unit {0}

module _ {V T : Type 0} (t : Turned V T) where
  -- it adds entries of its own call at the end, and nothing else
  pub record AddsOwn : Type 0 where
    pub kinds : List (KindSeen V T)
    pub added : t.world_after.history ≡ with_entries t.call.id kinds t.world.history

  -- whoever else owns the lock owned it before, and a call of another node keeps it
  pub record LeavesLock : Type 0 where
    pub gives_none : (other : CallId) → t.world_after.owner ≡ Some other → other ≢ t.call.id → t.world.owner ≡ Some other
    pub keeps : (other : CallId) → t.world.owner ≡ Some other → (other.node.0 == t.call.id.node.0) ≡ false → t.world_after.owner ≡ Some other
