-- What a call knows that owns the lock to initialise its node, whatever it asks for.
use Rattle.std.specs.Prelude.{◌≡◌, ◌≤◌, false, IsTrue}
use Rattle.std.specs.List.{list_any}
use Rattle.store_traits.specs.declared.codec.Codec as codec_trait
use Rattle.store_traits.specs.declared.transform.Transform as transform_trait
use Rattle.folder_disk.specs.declared.folder.Folder as folder_trait
use Rattle.hist_journal.specs.Nodes.{is_ready}
use Rattle.shelf.specs.CallOrder.{is_later}
use Rattle.shelf.specs.ShelfSeen.{ShelfSeen}
use Rattle.shelf.specs.ShelfTurns.{IsRaised, Owns}
use Rattle.node_core.specs.declared.init_call.InitCall.{InitCall}
use Rattle.node_core.specs.declared.init_call.InitCall.TheVariants.{Read, Migrate, Finish}
use Rattle.node_core.specs.declared.origin.Origin.{Origin}
use Rattle.node_core.specs.Knows.{IsReadable}
use Rattle.node_core.specs.Own.{IsEarly}
use Rattle.node_core.specs.Ready.{rules_seen}

module _ {P C F V T : Type 0} (c : codec_trait.Ghosts C V) (t : transform_trait.Ghosts T V) (f : folder_trait.Ghosts F) where
  -- the value that was read is still the history's
  abbrev pub IsRead : InitCall P C T F V → ShelfSeen C F V T → Type 0
  IsRead Read s = Unit {0}
  IsRead (Migrate value) s = IsReadable (rules_seen c t f s) s.store s.list
  IsRead Finish s = IsReadable (rules_seen c t f s) s.store s.list

  pub record IsInitialising (origin : Origin) (init : InitCall P C T F V) (s : ShelfSeen C F V T) : Type 0 where
    pub owns : Owns origin.call s
    pub room : 1 ≤ s.room
    pub unready : is_ready origin.call.node s.list ≡ false
    pub unraised : IsRaised origin.call s → ⊥
    pub early : IsEarly origin.call s.list
    pub numbers : list_any (is_later origin.call) s.list ≡ false
    pub read : IsTrue f.told → IsRead init s
