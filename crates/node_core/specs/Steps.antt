-- The steps of the parts of a call, each as its row of the step table.
use Rattle.std.specs.Prelude.{◌≡◌, Bool, true, false, Result, Ok, Err, Option, Some, None}
use Rattle.store_traits.specs.declared.codec.Codec as codec_trait
use Rattle.store_traits.specs.declared.given.Given.{Given}
use Rattle.store_traits.specs.declared.read_error.ReadError.{ReadError}
use Rattle.store_traits.specs.declared.read_error.ReadError.TheVariants as read
use Rattle.store_traits.specs.declared.transform.Transform as transform_trait
use Rattle.store_traits.specs.declared.update_error.UpdateError.{UpdateError}
use Rattle.store_traits.specs.declared.update_error.UpdateError.TheVariants as error
use Rattle.folder_disk.specs.declared.folder.Folder as folder_trait
use Rattle.step_table.specs.declared.progress.Progress.{Progress}
use Rattle.step_table.specs.declared.progress.Progress.TheVariants.{Moved, Blocked, Ended}
use Rattle.step_table.specs.Calls.{Ask, At, First, SyncingFolder, Changed, Gone, Reply, Gave, Failed}
use Rattle.shelf.specs.ShelfSeen.{ShelfSeen}
use Rattle.step_table.specs.Turn.{Works}
use Rattle.value_cache.specs.Cached.{Cached, cached_seen}
use Rattle.node_core.specs.declared.init_call.InitCall.{InitCall}
use Rattle.node_core.specs.declared.init_call.InitCall.TheVariants as stage
use Rattle.node_core.specs.declared.init_call.Initialised.{Initialised}
use Rattle.node_core.specs.declared.init_call.Initialised.TheVariants as init
use Rattle.node_core.specs.declared.origin.Origin.{Origin}
use Rattle.node_core.specs.declared.write_call.Written.{Written}
use Rattle.node_core.specs.declared.write_call.Written.TheVariants as written
use Rattle.node_core.specs.Ready.{Equipped, rules_seen}
use Rattle.node_core.specs.Views.{init_seen, turned, write_seen}

-- a reason of a read, as that of an update
abbrev pub as_update : ReadError → UpdateError
as_update read.Corrupt = error.Corrupt
as_update (read.FileTooLong len) = error.FileTooLong len
as_update (read.ValueTooLong len) = error.ValueTooLong len
as_update (read.HistoryFull entries weight) = error.HistoryFull entries weight
as_update (read.StorageFault at) = error.StorageFault at
as_update (read.NotDurable at) = error.NotDurable at
as_update (read.LegacyFault at) = error.LegacyFault at
as_update (read.Died at) = error.Died at
as_update read.NoMemory = error.NoMemory

module _ {V : Type 0} where
  -- a read's answer, among all answers
  abbrev pub reply_of_read : Result (Given V) ReadError → Reply V
  reply_of_read (Ok given) = Gave given.edition given.value.value
  reply_of_read (Err error) = Failed (as_update error)

  abbrev pub read_replied : Progress (Result (Given V) ReadError) → Progress (Reply V)
  read_replied Moved = Moved
  read_replied Blocked = Blocked
  read_replied (Ended answer) = Ended (reply_of_read answer)

-- a blocked call leaves all of the shelf as it was, the rooms too
abbrev pub StaysIfBlocked : {C F V T : Type 0} → Progress (Reply V) → ShelfSeen C F V T → ShelfSeen C F V T → Type 0
StaysIfBlocked Blocked old new = new ≡ old
StaysIfBlocked other old new = Unit {0}

module _ {C F V T : Type 0} (c : codec_trait.Ghosts C V) (t : transform_trait.Ghosts T V) (f : folder_trait.Ghosts F) where
  -- the work of the step that the call was at
  abbrev pub RowFrom : Origin → At V T → ShelfSeen C F V T → Progress (Reply V) → At V T → ShelfSeen C F V T → Type 0
  RowFrom origin at old gave at_after new = Works (rules_seen c t f old) old.store (turned f origin at old origin at_after new) gave

  -- a call that goes on has what its next step needs
  abbrev pub StepEquips : Progress (Reply V) → At V T → ShelfSeen C F V T → Type 0
  StepEquips Moved at new = Equipped c t f at new
  StepEquips other at new = Unit {0}

  -- A step of a call: the work of its row, and what the next one needs. The store stays as it was, and a blocked call leaves
  -- all of the shelf so
  pub record Steps (origin : Origin) (at : At V T) (old : ShelfSeen C F V T) (gave : Progress (Reply V)) (at_after : At V T) (new : ShelfSeen C F V T) : Type 0 where
    pub row : RowFrom origin at old gave at_after new
    pub equips : StepEquips gave at_after new
    pub store : new.store ≡ old.store
    pub codec : new.codec ≡ old.codec
    pub waits : StaysIfBlocked gave old new

module _ {P C F V T : Type 0} where
  -- the step that ends the initialisation, and what it gives
  abbrev pub is_last : InitCall P C T F V → Bool
  is_last stage.Finish = true
  is_last other = false

  abbrev pub is_finished : Initialised P C T F V → Bool
  is_finished init.Finished = true
  is_finished other = false

  -- what a step of a write gives the call, and what it has to publish
  abbrev pub gave_written : Written P C T F V → Progress (Reply V)
  gave_written (written.Faulted place) = Ended (Failed (error.StorageFault place))
  gave_written other = Moved

  abbrev pub kept_written : Written P C T F V → Option (Cached V)
  kept_written (written.Changed place kept) = Some (cached_seen kept)
  kept_written other = None

module _ {P C F V T : Type 0} (c : codec_trait.Ghosts C V) (t : transform_trait.Ghosts T V) (f : folder_trait.Ghosts F) where
  abbrev pub WriteSteps : Origin → At V T → ShelfSeen C F V T → Written P C T F V → ShelfSeen C F V T → Type 0
  WriteSteps origin at old (written.Moved next) new = Steps c t f origin at old Moved (write_seen next) new
  WriteSteps origin at old (written.Changed place kept) new = Steps c t f origin at old Moved (SyncingFolder (Changed place)) new
  WriteSteps origin at old (written.Faulted place) new = Steps c t f origin at old (Ended (Failed (error.StorageFault place))) Gone new

  abbrev pub InitSteps : Origin → Ask T → At V T → ShelfSeen C F V T → Initialised P C T F V → ShelfSeen C F V T → Type 0
  InitSteps origin ask at old (init.Moved next) new = Steps c t f origin at old Moved (init_seen ask next) new
  InitSteps origin ask at old init.Finished new = Steps c t f origin at old Moved (First ask) new
  InitSteps origin ask at old (init.Ended error) new = Steps c t f origin at old (Ended (Failed (as_update error))) Gone new
