-- What a read of main gives, with the lock or without.
use Rattle.std.specs.Prelude.{◌≡◌, [], IsTrue, false}
use Rattle.store_traits.specs.declared.codec.Codec as codec_trait
use Rattle.store_traits.specs.declared.given.Given.{Given}
use Rattle.store_traits.specs.declared.read_error.ReadError.{ReadError}
use Rattle.store_traits.specs.declared.transform.Transform as transform_trait
use Rattle.folder_disk.specs.Tally.{Tallies}
use Rattle.folder_disk.specs.declared.call.FolderCall.TheVariants.{ReadMain}
use Rattle.folder_disk.specs.declared.folder.Folder as folder_trait
use Rattle.hist_journal.specs.declared.seen.BaseSeen.TheVariants.{Held}
use Rattle.hist_journal.specs.Folds.{edition_of}
use Rattle.shelf.specs.Base.{ReadsAs}
use Rattle.shelf.specs.Legal.{value_at}
use Rattle.shelf.specs.ShelfSeen.{ShelfSeen}
use Rattle.shelf.specs.ShelfTurns.{Adds}
use Rattle.step_table.specs.declared.progress.Progress.TheVariants.{Ended}
use Rattle.step_table.specs.Calls.{Ask, Failed, Gone, Purpose, Read, Reading, Reply, initialises}
use Rattle.node_core.specs.declared.origin.Origin.{Origin}
use Rattle.node_core.specs.Ready.{rules_seen}
use Rattle.node_core.specs.Steps.{Steps, as_update}

module _ {C F V T : Type 0} (c : codec_trait.Ghosts C V) (t : transform_trait.Ghosts T V) (f : folder_trait.Ghosts F) where
  -- main's value, which is the history's, and its edition; the shelf is as it was
  pub record HasRead (origin : Origin) (given : Given V) (old new : ShelfSeen C F V T) : Type 0 where
    pub reads : IsTrue f.told → ReadsAs (c.reads old.codec) (c.default_of old.codec) old.store.limits.file (f.contents old.folder).main (Held given.value.value)
    pub held : IsTrue f.told → value_at (rules_seen c t f old).meanings old.store old.list ≡ Held given.value.value
    pub reached : given.edition ≡ edition_of old.list
    pub same : Adds origin.call [] old new
    pub contents : IsTrue f.told → f.contents new.folder ≡ f.contents old.folder
    pub tally : Tallies f.told ReadMain false (f.tally old.folder) (f.tally new.folder)
    pub room : f.room new.folder ≡ f.room old.folder

  -- the call has ended for this reason, whatever it reads main for
  abbrev pub ReadFails : Origin → ReadError → ShelfSeen C F V T → ShelfSeen C F V T → Type 0
  ReadFails origin error old new = (purpose : Purpose) → (ask : Ask T) → Steps c t f origin (Reading purpose ask) old (Ended (Failed (as_update error))) Gone new

  -- the call of a read has ended with this answer, and owns nothing, whether it read under the lock or without
  abbrev pub EndsRead : Origin → Reply V → ShelfSeen C F V T → ShelfSeen C F V T → Type 0
  EndsRead origin reply old new = (purpose : Purpose) → initialises purpose ≡ false → Steps c t f origin (Reading purpose Read) old (Ended reply) Gone new
