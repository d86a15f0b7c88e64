-- What contracts see of a shelf.
use Rattle.std.specs.Prelude.{ℕ, List, Option}
use Rattle.store_traits.specs.declared.codec.Codec as codec_trait
use Rattle.store_traits.specs.declared.ids.CallId.{CallId}
use Rattle.store_traits.specs.declared.transform.Transform as transform_trait
use Rattle.folder_disk.specs.declared.folder.Folder as folder_trait
use Rattle.hist_journal.specs.declared.seen.EntrySeen.{EntrySeen}
use Rattle.shelf.specs.declared.shelf.Shelf.{Shelf}
use Rattle.shelf.specs.declared.store.PlannedDeath.{PlannedDeath}
use Rattle.shelf.specs.declared.store.Store.{Store}
use Rattle.shelf.specs.StoreSeen.{store_with}

-- `deaths` are those that are not used up, and `room` is how many entries the owner of the lock may still add without memory
pub record ShelfSeen (C F V T : Type 0) : Type 0 where
  pub codec : C
  pub folder : F
  pub store : Store V (Unit {0})
  pub deaths : List PlannedDeath
  pub list : List (EntrySeen V T)
  pub owner : Option CallId
  pub room : ℕ

module _ {P C T F V : Type 0} {c : codec_trait.Ghosts C V} {t : transform_trait.Ghosts T V} {f : folder_trait.Ghosts F} where
  abbrev pub shelf_seen : Shelf P C T F V c t f → ShelfSeen C F V T
  shelf_seen s =
      record {
        codec = s.codec;
        folder = s.folder;
        store = store_with f.told (f.contents s.folder) (f.tally s.folder) s.limit s.first_faults s.deaths.planned s.ledger.journal s.ledger.nodes;
        deaths = s.deaths.left;
        list = s.ledger.journal.list;
        owner = s.ledger.lock;
        room = s.ledger.reserved;
      }
