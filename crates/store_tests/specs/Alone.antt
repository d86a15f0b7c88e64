-- Calls that go on, and one update at a time.
use Rattle.std.specs.Prelude.{◌≡◌, Bool, true, false, List, ◌++◌, Some}
use Rattle.std.specs.List.{list_any}
use Rattle.store_traits.specs.declared.codec.Codec as codec_trait
use Rattle.store_traits.specs.declared.ids.CallId.{CallId}
use Rattle.store_traits.specs.declared.transform.Transform as transform_trait
use Rattle.folder_disk.specs.declared.folder.Folder as folder_trait
use Rattle.hist_journal.specs.declared.seen.EntrySeen.{EntrySeen}
use Rattle.hist_journal.specs.declared.seen.KindSeen.{KindSeen}
use Rattle.hist_journal.specs.Nodes.{is_ready}
use Rattle.shelf.specs.AddsNode.{is_among}
use Rattle.shelf.specs.CallOrder.{is_later}
use Rattle.shelf.specs.Deaths.{has_died}
use Rattle.shelf.specs.Meanwhile.{NoneOf}
use Rattle.shelf.specs.ShelfSeen.{ShelfSeen}
use Rattle.step_table.specs.Calls.{At, is_first, is_gone}
use Rattle.node_core.specs.declared.origin.Origin.{Origin}
use Rattle.node_core.specs.Ready.{Ready}

module _ {V T : Type 0} where
  -- nothing of the call was told, nor of a later one of its client
  pub record IsNew (call : CallId) (list : List (EntrySeen V T)) : Type 0 where
    pub none : NoneOf call list
    pub numbers : list_any (is_later call) list ≡ false

  -- entries of this call were added: no test sees them that sees no entry of the call
  pub record TellsOf (call : CallId) (list now : List (EntrySeen V T)) : Type 0 where
    pub more : List (EntrySeen V T)
    pub added : now ≡ list ++ more
    pub unseen : (sees : EntrySeen V T → Bool) → ((kind : KindSeen V T) → sees (record { who = call; kind = kind }) ≡ false) → list_any sees more ≡ false

-- a call goes on that is ready for its next turn
pub record GoesOn {C F V T : Type 0} (c : codec_trait.Ghosts C V) (t : transform_trait.Ghosts T V) (f : folder_trait.Ghosts F) (origin : Origin) (at : At V T) (s : ShelfSeen C F V T) : Type 0 where
  pub runs : is_gone at ≡ false
  pub node : is_among origin.call.node s.store.nodes ≡ true
  pub ready : Ready c t f origin at s

-- and nobody else owns the lock, nor the call where its node has died; a node that the call has initialised is so at its next first turn
pub record IsAlone {C F V T : Type 0} (c : codec_trait.Ghosts C V) (t : transform_trait.Ghosts T V) (f : folder_trait.Ghosts F) (origin : Origin) (initialised : Bool) (at : At V T) (s : ShelfSeen C F V T) : Type 0 where
  pub goes : GoesOn c t f origin at s
  pub readiness : initialised ≡ true → is_first at ≡ true → is_ready origin.call.node s.list ≡ true
  pub owner : (call : CallId) → s.owner ≡ Some call → call ≡ origin.call
  pub lives : s.owner ≡ Some origin.call → has_died origin.call.node origin.since s.list ≡ false
