-- A call in progress: what it asks for, who makes it, where it is, and what it is answered.
use Rattle.std.specs.Prelude.{ℕ, Bool, true, false, Option, if◌then◌else◌, Result, Ok, Err}
use Rattle.store_traits.specs.declared.ids.CallId.{CallId}
use Rattle.store_traits.specs.declared.ids.NodeId.{NodeId}
use Rattle.store_traits.specs.declared.step.Step.{Step}
use Rattle.store_traits.specs.declared.step.Step.TheVariants as step
use Rattle.store_traits.specs.declared.update_error.UpdateError.{UpdateError}
use Rattle.hist_journal.specs.declared.seen.KindSeen.{KindSeen}
use Rattle.scratch_rename.specs.Filling.{Filling}
use Rattle.shelf.specs.declared.answers.Want.{Want}
use Rattle.shelf.specs.declared.answers.Want.TheVariants as want
use Rattle.shelf.specs.Takes.{needs_lock}
use Rattle.step_table.specs.declared.progress.Progress.{Progress}
use Rattle.step_table.specs.declared.progress.Progress.TheVariants.{Moved, Blocked, Ended}

-- what a call asks for
pub data Ask (T : Type 0) : Type 0 where
  Update : (edit : T) → Ask T
  Read : Ask T

-- what a call is answered, whatever it asked for
pub data Reply (V : Type 0) : Type 0 where
  Updated : (edition : ℕ) → Reply V
  Gave : (edition : ℕ) → (value : V) → Reply V
  Failed : (error : UpdateError) → Reply V
  -- of a restart: the place of its entry, or that the node is not dead
  Restarted : (place : ℕ) → Reply V
  NotDead : Reply V

-- a value change that is being written, the value that it makes, and how far its text is in the scratch file
pub record Plan (V T : Type 0) : Type 0 where
  pub change : KindSeen V T
  pub value : V
  pub text : Filling

-- what an update has to tell once the folder is synced: where its value change stands, or that its transform kept the value
pub data Ending (T : Type 0) : Type 0 where
  Changed : (place : ℕ) → Ending T
  Kept : (edit : T) → Ending T

-- what main is read for; a read may be served without the lock
pub data Purpose : Type 0 where
  Initialise : Purpose
  Serve : Purpose
  ServeUnlocked : Purpose

-- how far a change is written
pub data Stage : Type 0 where
  Creating : Stage
  Appending : Stage
  SyncingScratch : Stage
  Renaming : Stage

-- the next step of a call, with what the call carries to it
pub data At (V T : Type 0) : Type 0 where
  -- I1, or U1 for an update and V2 for a read, whichever it is by then
  First : (ask : Ask T) → At V T
  -- I2, or U2 for an update and V3 for a read
  Reading : (purpose : Purpose) → (ask : Ask T) → At V T
  -- I3, with the value that was read
  Migrating : (ask : Ask T) → (value : V) → At V T
  -- I6
  Finishing : (ask : Ask T) → At V T
  -- U3
  Raising : (plan : Plan V T) → At V T
  -- U4 to U7
  Writing : (stage : Stage) → (plan : Plan V T) → At V T
  -- U8
  SyncingFolder : (ending : Ending T) → At V T
  -- R1: this node is to be brought back
  Restarting : (node : NodeId) → At V T
  -- it has ended
  Gone : At V T

pub record Call (V T : Type 0) : Type 0 where
  pub id : CallId
  pub at : At V T
  -- how many entries there were when its earliest turn began; none before that
  pub since : Option ℕ

module _ {V : Type 0} where
  -- an update's answer, among all answers
  abbrev pub reply_of : Result ℕ UpdateError → Reply V
  reply_of (Ok edition) = Updated edition
  reply_of (Err error) = Failed error

  abbrev pub replied : Progress (Result ℕ UpdateError) → Progress (Reply V)
  replied Moved = Moved
  replied Blocked = Blocked
  replied (Ended answer) = Ended (reply_of answer)

-- the steps by what they do
abbrev pub first_step : {T : Type 0} → Ask T → (ready : Bool) → Step
first_step (Update edit) ready = if ready then step.U1 else step.I1
first_step Read ready = if ready then step.V2 else step.I1

abbrev pub reading_step : {T : Type 0} → Purpose → Ask T → Step
reading_step Initialise ask = step.I2
reading_step Serve (Update edit) = step.U2
reading_step Serve Read = step.V3
reading_step ServeUnlocked ask = step.V3

abbrev pub initialises : Purpose → Bool
initialises Initialise = true
initialises other = false

-- what the lock is taken for
abbrev pub want_of : {T : Type 0} → Ask T → Want
want_of (Update edit) = want.Update
want_of Read = want.Read

abbrev pub writing_step : Stage → Step
writing_step Creating = step.U4
writing_step Appending = step.U5
writing_step SyncingScratch = step.U6
writing_step Renaming = step.U7

module _ {V T : Type 0} where
  -- the call has ended
  abbrev pub is_gone : At V T → Bool
  is_gone Gone = true
  is_gone other = false

  -- a turn in which the call takes the lock, if it is free
  abbrev pub is_first : At V T → Bool
  is_first (First ask) = true
  is_first other = false

  -- a turn in which the call has to own the lock, and waits where another does; `ready` as below
  abbrev pub is_locking : (ready : Bool) → At V T → Bool
  is_locking ready (First ask) = needs_lock (want_of ask) ready
  is_locking ready other = false

  -- the step of a call, where `ready` says whether its node is initialised; a call that ended has none, and I1 stands for it
  abbrev pub step_at : (ready : Bool) → At V T → Step
  step_at ready (First ask) = first_step ask ready
  step_at ready (Reading purpose ask) = reading_step purpose ask
  step_at ready (Migrating ask value) = step.I3
  step_at ready (Finishing ask) = step.I6
  step_at ready (Raising plan) = step.U3
  step_at ready (Writing stage plan) = writing_step stage
  step_at ready (SyncingFolder ending) = step.U8
  step_at ready (Restarting node) = step.R1
  step_at ready Gone = step.I1
