-- What a turn does, as data; and what that makes of the world and of the call, said once for all steps.
use Rattle.std.specs.Prelude.{◌≡◌, ◌+◌, ℕ, Bool, true, false, List, [], ◌∷◌, ◌++◌, Option, Some, if◌then◌else◌}
use Rattle.store_traits.specs.declared.ids.CallId.{CallId}
use Rattle.store_traits.specs.declared.update_error.UpdateError.{UpdateError}
use Rattle.store_traits.specs.declared.update_error.UpdateError.TheVariants.{Died}
use Rattle.file_lock.specs.Owner.{freed_node}
use Rattle.hist_journal.specs.declared.device.Device.TheVariants.{Folder}
use Rattle.hist_journal.specs.declared.seen.KindSeen.{KindSeen}
use Rattle.hist_journal.specs.declared.seen.KindSeen.TheVariants.{Fault}
use Rattle.hist_journal.specs.Kinds.{is_raise}
use Rattle.shelf.specs.Deaths.{used_up}
use Rattle.shelf.specs.Entries.{with_entries}
use Rattle.shelf.specs.Ledger.{freed}
use Rattle.step_table.specs.Calls.{At, Call, Gone, Reply, Failed}
use Rattle.step_table.specs.Requests.{Request, Serves}
use Rattle.step_table.specs.World.{World, Turned, step_of}
use Rattle.step_table.specs.declared.progress.Progress.{Progress}
use Rattle.step_table.specs.declared.progress.Progress.TheVariants.{Moved, Blocked, Ended}

-- what becomes of the lock where the call goes on
pub data LockMove : Type 0 where
  Stays : LockMove
  Takes : LockMove
  Frees : LockMove

-- a call that ends frees the lock if it owns it; one whose node died before leaves all as it is, and is told where the node died
pub data Next (V T : Type 0) : Type 0 where
  Waits : Next V T
  Goes : (lock : LockMove) → (at : At V T) → Next V T
  Ends : (reply : Reply V) → Next V T
  Ceases : (place : ℕ) → Next V T

-- which call of the folder is made, and how it goes
pub data FolderUse : Type 0 where
  Unused : FolderUse
  Served : (request : Request) → FolderUse
  Faulted : (request : Request) → FolderUse

pub record Effect (V T : Type 0) : Type 0 where
  pub next : Next V T
  -- the entries of the call, but the Fault of a folder that fails
  pub kinds : List (KindSeen V T)
  pub folder : FolderUse
  -- a planned death strikes
  pub dies : Bool

-- what a folder that is used leaves, or else what was there
abbrev pub left_by : {A : Type 0} → FolderUse → (old new : A) → A
left_by Unused old new = old
left_by (Served request) old new = new
left_by (Faulted request) old new = new

module _ {V T : Type 0} where
  -- the words that the rows are written in
  abbrev pub does : Next V T → Effect V T
  does next = record { next = next; kinds = []; folder = Unused; dies = false }

  abbrev pub goes : At V T → Effect V T
  goes at = does (Goes Stays at)

  abbrev pub errs : UpdateError → Effect V T
  errs error = does (Ends (Failed error))

  abbrev pub asking : Request → Effect V T → Effect V T
  asking request e = record e { folder = Served request }

  abbrev pub adding : List (KindSeen V T) → Effect V T → Effect V T
  adding kinds e = record e { kinds = kinds }

  abbrev pub fails : Request → UpdateError → Effect V T
  fails request error = record (errs error) { folder = Faulted request }

  -- what they come to: all entries of the turn, where `count` is the folder's count of faults behind it
  abbrev pub all_kinds : FolderUse → (count : ℕ) → List (KindSeen V T) → List (KindSeen V T)
  all_kinds Unused count kinds = kinds
  all_kinds (Served request) count kinds = kinds
  all_kinds (Faulted request) count kinds = kinds ++ Fault Folder count ∷ []

  -- the version behind these entries
  abbrev pub raised_by : List (KindSeen V T) → ℕ → ℕ
  raised_by [] version = version
  raised_by (kind ∷ kinds) version = raised_by kinds (if is_raise kind then version + 1 else version)

  abbrev pub gave_by : Next V T → Progress (Reply V)
  gave_by Waits = Blocked
  gave_by (Goes lock at) = Moved
  gave_by (Ends reply) = Ended reply
  gave_by (Ceases place) = Ended (Failed (Died place))

  abbrev pub at_by : Next V T → At V T → At V T
  at_by Waits at = at
  at_by (Goes lock next) at = next
  at_by (Ends reply) at = Gone
  at_by (Ceases place) at = Gone

  abbrev pub owner_by : Next V T → CallId → Option CallId → Option CallId
  owner_by Waits call owner = owner
  owner_by (Goes Stays at) call owner = owner
  owner_by (Goes Takes at) call owner = Some call
  owner_by (Goes Frees at) call owner = freed call owner
  owner_by (Ends reply) call owner = freed call owner
  owner_by (Ceases place) call owner = owner

  -- the call does the last turn, or another
  abbrev pub call_by : Effect V T → Call V T → Call V T
  call_by e call = record call { at = at_by e.next call.at }

  -- a planned failure of the folder leaves all that it holds
  abbrev pub SparesFolder : FolderUse → (old new : World V T) → Type 0
  SparesFolder (Faulted request) old new = new.folder ≡ old.folder
  SparesFolder other old new = Unit {0}

module _ {V T : Type 0} (t : Turned V T) (e : Effect V T) where
  -- a death frees what its node owns, and is used up
  abbrev pub world_by : World V T
  world_by =
      record t.world {
        folder = left_by e.folder t.world.folder t.world_after.folder;
        tally = left_by e.folder t.world.tally t.world_after.tally;
        owner = if e.dies then freed_node t.call.id.node t.world.owner else owner_by e.next t.call.id t.world.owner;
        history = with_entries t.call.id (all_kinds e.folder t.world_after.tally.count e.kinds) t.world.history;
        deaths = if e.dies then used_up t.call.id (step_of t) t.world.deaths else t.world.deaths;
        version = raised_by e.kinds t.world.version;
      }

  -- the folder was used so
  abbrev pub Uses : FolderUse → Type 0
  Uses Unused = Unit {0}
  Uses (Served request) = Serves request false t.world t.world_after
  Uses (Faulted request) = Serves request true t.world t.world_after

  -- the turn does what the effect says, and gives this
  pub record Comes (gave : Progress (Reply V)) : Type 0 where
    pub given : gave ≡ gave_by e.next
    pub used : Uses e.folder
    pub world : t.world_after ≡ world_by
    pub call : t.call_after ≡ call_by e t.call
