-- What a turn leaves of the room that is kept for another call that owns the lock.
use Rattle.std.proofs.Common.{◌≡◌, ◌∙◌, List, [], sym, ap, arith}
use Rattle.store_traits.specs.declared.codec.Codec as codec_trait
use Rattle.store_traits.specs.declared.transform.Transform as transform_trait
use Rattle.folder_disk.specs.declared.folder.Folder as folder_trait
use Rattle.hist_journal.specs.declared.seen.KindSeen.{KindSeen}
use Rattle.shelf.specs.ShelfSeen.{ShelfSeen}
use Rattle.shelf.specs.ShelfTurns.{Adds, Frees}
use Rattle.shelf.proofs.LedgerLemmas.{freed_room_other}
use Rattle.step_table.proofs.LockLemmas.{same_some}
use Rattle.node_core.specs.declared.origin.Origin.{Origin}
use Rattle.node_core.specs.Step.{SparesRoom}

module _ {C F V T : Type 0} (c : codec_trait.Ghosts C V) (t : transform_trait.Ghosts T V) (f : folder_trait.Ghosts F) (origin : Origin) where
  abbrev Spares : ShelfSeen C F V T → ShelfSeen C F V T → Type 0
  Spares old new = SparesRoom c t f origin old new

  module _ {old new : ShelfSeen C F V T} where
    pub same_spares : new ≡ old → Spares old new
    same_spares same = λ other owned unlike. record { entries = ap (λ (s : ShelfSeen C F V T). s.room) same; folder = ap (λ (s : ShelfSeen C F V T). f.room s.folder) same }

    pub adds_spares : Adds origin.call [] old new → f.room new.folder ≡ f.room old.folder → Spares old new
    adds_spares adds folder = λ other owned unlike. record { entries = omega (arith, adds.room); folder = folder }

    -- the lock is freed, if the call owns it
    pub frees_spares : {kinds : List (KindSeen V T)} → Frees origin.call kinds old new → f.room new.folder ≡ f.room old.folder → Spares old new
    frees_spares frees folder =
        λ other owned unlike.
        record { entries = frees.room ∙ freed_room_other origin.call old.owner old.room (λ own. unlike (same_some other origin.call (sym owned ∙ own))); folder = folder }

  -- one turn behind another
  pub then_spares : {old mid new : ShelfSeen C F V T} → mid.owner ≡ old.owner → Spares old mid → Spares mid new → Spares old new
  then_spares same first then =
      λ other owned unlike.
      let kept = first other owned unlike in
      let still = then other (same ∙ owned) unlike in
      record { entries = still.entries ∙ kept.entries; folder = still.folder ∙ kept.folder }
