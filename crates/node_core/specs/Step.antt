-- What a step of a call asks for, and what it is.
use Rattle.std.specs.Prelude.{◌≡◌, ◌⊎◌, Some, false, length, true}
use Rattle.store_traits.specs.declared.codec.Codec as codec_trait
use Rattle.store_traits.specs.declared.transform.Transform as transform_trait
use Rattle.store_traits.specs.declared.ids.CallId.{CallId}
use Rattle.folder_disk.specs.declared.folder.Folder as folder_trait
use Rattle.shelf.specs.Deaths.{died_since}
use Rattle.shelf.specs.ShelfSeen.{ShelfSeen}
use Rattle.step_table.specs.declared.progress.Progress.{Progress}
use Rattle.step_table.specs.Calls.{At, Reply, is_gone}
use Rattle.step_table.specs.Turn.{Turn}
use Rattle.node_core.specs.declared.origin.Origin.{Origin}
use Rattle.node_core.specs.Between.{Between, Died}
use Rattle.node_core.specs.Phases.{is_holding}
use Rattle.node_core.specs.Ready.{Ready, rules_seen}
use Rattle.node_core.specs.Steps.{StaysIfBlocked}
use Rattle.node_core.specs.Views.{call_seen, turned, world_seen}

module _ {C F V T : Type 0} (c : codec_trait.Ghosts C V) (t : transform_trait.Ghosts T V) (f : folder_trait.Ghosts F) where
  -- the room that is kept for the lock's owner, in the history and in the folder
  pub record KeepsRoom (last now : ShelfSeen C F V T) : Type 0 where
    pub entries : now.room ≡ last.room
    pub folder : f.room now.folder ≡ f.room last.folder

  -- what is kept for another call that owns the lock stays
  abbrev pub SparesRoom : Origin → ShelfSeen C F V T → ShelfSeen C F V T → Type 0
  SparesRoom origin old new = (other : CallId) → old.owner ≡ Some other → (other ≡ origin.call → ⊥) → KeepsRoom old new

  -- the same, unless the node of that call died in the turn
  abbrev pub SparesLiving : Origin → ShelfSeen C F V T → ShelfSeen C F V T → Type 0
  SparesLiving origin old new =
      (other : CallId) → old.owner ≡ Some other → (other ≡ origin.call → ⊥) → KeepsRoom old new ⊎ (died_since other.node (Some (length old.list)) new.list ≡ true)

  -- The shelf as the call's last turn left it, and what others did since: the store is the same, the history grew by
  -- entries of others, and what a call owns that owns the lock is as it was, unless its node died. Before its earliest turn any
  -- shelf serves in which nothing of the call stands. A call whose node died then needs nothing more: its step ends it.
  pub record MayStep (origin : Origin) (at : At V T) (now : ShelfSeen C F V T) : Type 0 where
    pub last : ShelfSeen C F V T
    pub ready : died_since origin.call.node origin.since last.list ≡ false → Ready c t f origin at last
    pub between : Between (call_seen origin at) (world_seen f last) (world_seen f now)
    pub codec : now.codec ≡ last.codec
    pub store : now.store ≡ last.store
    pub kept : is_holding at ≡ true → KeepsRoom last now ⊎ Died (call_seen origin at) between.more

  -- one turn of the call
  abbrev pub TurnFrom : Origin → At V T → ShelfSeen C F V T → Progress (Reply V) → Origin → At V T → ShelfSeen C F V T → Type 0
  TurnFrom origin at old gave origin_after at_after new = Turn (rules_seen c t f old) old.store (turned f origin at old origin_after at_after new) gave

  -- what a step is, whatever the call asks for
  pub record StepsTo (origin : Origin) (at : At V T) (old : ShelfSeen C F V T) (gave : Progress (Reply V)) (origin_after : Origin) (at_after : At V T) (new : ShelfSeen C F V T) : Type 0 where
    -- it is the turn of the step table
    pub turn : TurnFrom origin at old gave origin_after at_after new
    pub call : origin_after.call ≡ origin.call
    -- a call that goes on may step again
    pub ready : is_gone at_after ≡ false → Ready c t f origin_after at_after new
    -- the store is the same, and a blocked call leaves all of the shelf as it was
    pub store : new.store ≡ old.store
    pub codec : new.codec ≡ old.codec
    pub waits : StaysIfBlocked gave old new
    -- so stays what is kept for another call that owns the lock, unless its node died
    pub spares : SparesLiving origin old new
