-- What a first turn gives a call that goes on.
use Rattle.store_traits.specs.declared.codec.Codec as codec_trait
use Rattle.store_traits.specs.declared.transform.Transform as transform_trait
use Rattle.folder_disk.specs.declared.folder.Folder as folder_trait
use Rattle.shelf.specs.ShelfSeen.{ShelfSeen}
use Rattle.step_table.specs.declared.progress.Progress.{Progress}
use Rattle.step_table.specs.declared.progress.Progress.TheVariants.{Moved, Blocked}
use Rattle.step_table.specs.Calls.{Ask, At, First, Initialise, Reading, Reply, Serve, ServeUnlocked}
use Rattle.node_core.specs.declared.locking.Locked.{Locked}
use Rattle.node_core.specs.declared.locking.Locked.TheVariants as locked
use Rattle.node_core.specs.declared.origin.Origin.{Origin}
use Rattle.node_core.specs.Steps.{Steps}

-- the next step of a call that asks for this
abbrev pub at_locked : {V T : Type 0} → Ask T → Locked → At V T
at_locked ask locked.Initialise = Reading Initialise ask
at_locked ask locked.Held = Reading Serve ask
at_locked ask locked.Unlocked = Reading ServeUnlocked ask
at_locked ask locked.Blocked = First ask

abbrev pub gave_locked : {V : Type 0} → Locked → Progress (Reply V)
gave_locked locked.Blocked = Blocked
gave_locked other = Moved

module _ {C F V T : Type 0} (c : codec_trait.Ghosts C V) (t : transform_trait.Ghosts T V) (f : folder_trait.Ghosts F) where
  abbrev pub LockSteps : Origin → Ask T → ShelfSeen C F V T → Locked → ShelfSeen C F V T → Type 0
  LockSteps origin ask old locked new = Steps c t f origin (First ask) old (gave_locked locked) (at_locked ask locked) new
