-- The death test with which a turn begins.
use Rattle.std.specs.Prelude.{◌≡◌, ◌⊎◌, ◌+◌, ℕ, Bool, true, false, [], ◌∷◌, length, Option, Some, None}
use Rattle.std.specs.List.{list_any}
use Rattle.store_traits.specs.declared.ids.CallId.{CallId}
use Rattle.store_traits.specs.declared.step.Step.{Step}
use Rattle.file_lock.specs.Owner.{freed_node}
use Rattle.hist_journal.specs.declared.seen.KindSeen.TheVariants.{Death}
use Rattle.hist_journal.specs.Nodes.{is_ready}
use Rattle.shelf.specs.Deaths.{has_died, last_death, strikes, turn_step, used_up}
use Rattle.shelf.specs.Entries.{with_entries}
use Rattle.shelf.specs.Ledger.{freed_node_room}
use Rattle.shelf.specs.ShelfSeen.{ShelfSeen}

module _ {C F V T : Type 0} (call : CallId) (step : Step) where
  -- the step, as the call's node is
  abbrev pub step_now : ShelfSeen C F V T → Step
  step_now s = turn_step (is_ready call.node s.list) step

  -- a death is planned for it
  abbrev pub is_to_die : ShelfSeen C F V T → Bool
  is_to_die s = list_any (strikes call (step_now s)) s.deaths

  -- the node is dead and owns nothing, and the death is used up
  pub record Kills (old new : ShelfSeen C F V T) : Type 0 where
    pub list : new.list ≡ with_entries call (Death call.node ∷ []) old.list
    pub owner : new.owner ≡ freed_node call.node old.owner
    pub room : new.room ≡ freed_node_room call.node old.owner old.room
    pub deaths : new.deaths ≡ used_up call (step_now old) old.deaths
    pub codec : new.codec ≡ old.codec
    pub folder : new.folder ≡ old.folder
    pub store : new.store ≡ old.store

  module _ (since : Option ℕ) where
    -- its node has died before, where the last Death of it stands; nothing changes
    pub record DiedBefore (place : ℕ) (old new : ShelfSeen C F V T) : Type 0 where
      pub died : has_died call.node since old.list ≡ true
      pub last : last_death call.node old.list ≡ Some place
      pub same : new ≡ old

    -- it kills its node before the step, as it is planned, by the next entry
    pub record DiesNow (place : ℕ) (old new : ShelfSeen C F V T) : Type 0 where
      pub lives : has_died call.node since old.list ≡ false
      pub planned : is_to_die old ≡ true
      pub counted : place ≡ length old.list + 1
      pub kills : Kills old new

    -- neither
    pub record LivesOn (old new : ShelfSeen C F V T) : Type 0 where
      pub lives : has_died call.node since old.list ≡ false
      pub unplanned : is_to_die old ≡ false
      pub same : new ≡ old

    -- the place of the Death that ends the call, if one does
    abbrev pub BeginRow : Option ℕ → ShelfSeen C F V T → ShelfSeen C F V T → Type 0
    BeginRow None old new = LivesOn old new
    BeginRow (Some place) old new = DiedBefore place old new ⊎ DiesNow place old new
