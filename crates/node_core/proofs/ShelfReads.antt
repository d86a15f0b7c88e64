-- Between two turns a shelf's main reads as the value of its history.
use Rattle.std.proofs.Common.{◌≡◌, ◌<◌, ◌^◌, ℕ, List, length}
use base.Stored.{Coded}
use Rattle.std.proofs.Math.Logic.{∥∥₁_elim}
use Rattle.store_traits.specs.declared.codec.Codec as codec_trait
use Rattle.store_traits.specs.declared.transform.Transform as transform_trait
use Rattle.folder_disk.specs.declared.folder.Folder as folder_trait
use Rattle.shelf.specs.declared.shelf.Shelf.{Shelf}
use Rattle.shelf.specs.ShelfSeen.{shelf_seen}
use Rattle.shelf.proofs.BaseSets.{base_set}
use Rattle.shelf.proofs.ReadingLemmas.{value_is}
use Rattle.node_core.specs.Reading.{ReadsTruly}
use Rattle.node_core.specs.Ready.{rules_seen}
use Rattle.node_core.specs.Views.{world_seen}

pub reads_truly : {P C T F V : Type 0} {c : codec_trait.Ghosts C V} {t : transform_trait.Ghosts T V} {f : folder_trait.Ghosts F} (s : Shelf P C T F V c t f) → Coded V
    → ((bytes : List ℕ) (v w : V) → c.reads s.codec bytes v → c.reads s.codec bytes w → v ≡ w)
    → ((v : V) → c.is_value s.codec v → length (c.encoded s.codec v) < 2 ^ 64 → c.reads s.codec (c.encoded s.codec v) v)
    → ReadsTruly (rules_seen c t f (shelf_seen s)) (shelf_seen s).store (world_seen f (shelf_seen s))
reads_truly s coded read_once read_back =
    λ told base reads. ∥∥₁_elim s.kept (base_set coded _ _) (λ kept. value_is _ _ _ s.low_limit read_once read_back _ _ _ (kept.main told) reads)
