-- What a turn of the shelf leaves, as a step of the table.
use Rattle.std.proofs.Common.{◌≡◌, ◌∙◌, ◌+◌, ℕ, true, false, List, [], length, Option, IsTrue, refl, ap}
use Rattle.store_traits.specs.declared.codec.Codec as codec_trait
use Rattle.store_traits.specs.declared.ids.CallId.{CallId}
use Rattle.store_traits.specs.declared.transform.Transform as transform_trait
use Rattle.store_traits.specs.declared.update_error.UpdateError.{UpdateError}
use Rattle.store_traits.specs.declared.update_error.UpdateError.TheVariants.{StorageFault}
use Rattle.folder_disk.specs.declared.folder.Folder as folder_trait
use Rattle.folder_disk.specs.Tally.{Tallies}
use Rattle.hist_journal.specs.declared.seen.KindSeen.{KindSeen}
use Rattle.hist_journal.specs.Folds.{raises_of}
use Rattle.shelf.specs.Ledger.{freed}
use Rattle.shelf.specs.ShelfSeen.{ShelfSeen}
use Rattle.shelf.specs.ShelfTurns.{Faults, Frees, Leaves}
use Rattle.step_table.specs.declared.progress.Progress.TheVariants.{Moved, Ended}
use Rattle.step_table.specs.Calls.{At, Failed, Gone, Plan, Reply, Stage, Writing}
use Rattle.step_table.specs.Effects.{Comes, Effect, Ends, FolderUse, Unused, Served, Faulted, Goes, LockMove, Next, all_kinds, at_by, fails, gave_by, owner_by, raised_by}
use Rattle.step_table.specs.Requests.{Request, Serves, call_of}
use Rattle.step_table.specs.Requests as request
use Rattle.step_table.specs.Rows.{Row, request_of, write_fails}
use Rattle.step_table.proofs.Applying.{raises_added}
use Rattle.node_core.specs.declared.origin.Origin.{Origin}
use Rattle.node_core.specs.Ready.{Equipped, rules_seen}
use Rattle.node_core.specs.Steps.{Steps}
use Rattle.node_core.specs.Views.{turned, world_seen}

module _ {C F V T : Type 0} {call : CallId} {kinds : List (KindSeen V T)} {room : ℕ} {old : ShelfSeen C F V T} where
  -- the version behind these entries
  pub version_left : {owner : Option CallId} {new : ShelfSeen C F V T} → Leaves call kinds owner room old new → raises_of new.list ≡ raised_by kinds (raises_of old.list)
  version_left leaves = ap raises_of leaves.list ∙ raises_added call kinds old.list

  -- a lock that is freed behind a turn that left it
  pub then_frees : {mid new : ShelfSeen C F V T} → Leaves call kinds old.owner room old mid → Frees call [] mid new → Leaves call kinds (freed call old.owner) new.room old new
  then_frees leaves frees =
      record {
        list = frees.list ∙ leaves.list;
        owner = frees.owner ∙ ap (freed call) leaves.owner;
        room = refl;
        deaths = frees.deaths ∙ leaves.deaths;
        codec = frees.codec ∙ leaves.codec;
        store = frees.store ∙ leaves.store;
      }

module _ {C F V T : Type 0} (f : folder_trait.Ghosts F) (old new : ShelfSeen C F V T) (kinds : List (KindSeen V T)) where
  -- the folder is as it was, or was asked once; where it failed, nothing but its Fault is told
  abbrev pub Touches : FolderUse → Type 0
  Touches Unused = new.folder ≡ old.folder
  Touches (Served request) = Serves request false (world_seen f old) (world_seen f new)
  Touches (Faulted request) = (kinds ≡ []) × Serves request true (world_seen f old) (world_seen f new)

  -- what an effect says of lock and history
  abbrev pub LeavesBy : FolderUse → Next V T → CallId → (room : ℕ) → Type 0
  LeavesBy used next call room = Leaves call (all_kinds used (f.tally new.folder).count kinds) (owner_by next call old.owner) room old new

  -- such a turn comes of the effect
  comes : (origin : Origin) (at : At V T) (next : Next V T) (used : FolderUse) (room : ℕ) → LeavesBy used next origin.call room → Touches used
      → Comes (turned f origin at old origin (at_by next at) new) (record { next = next; kinds = kinds; folder = used; dies = false }) (gave_by next)
  comes origin at next Unused room leaves same = record { given = refl; used = tt; world = rw (same, version_left leaves, leaves.deaths, leaves.owner, leaves.list) refl; call = refl }
  comes origin at next (Served request) room leaves serves = record { given = refl; used = serves; world = rw (version_left leaves, leaves.deaths, leaves.owner, leaves.list) refl; call = refl }
  comes origin at next (Faulted request) room leaves failed =
      let version : raises_of new.list ≡ raised_by kinds (raises_of old.list) = rw failed.0 (version_left (rw failed.0 at leaves)) in
      record { given = refl; used = failed.1; world = rw (version, leaves.deaths, leaves.owner, leaves.list) refl; call = refl }

module _ {C F V T : Type 0} (c : codec_trait.Ghosts C V) (t : transform_trait.Ghosts T V) (f : folder_trait.Ghosts F) (origin : Origin) (at : At V T) (old : ShelfSeen C F V T) where
  -- the table has this effect
  abbrev pub Line : Effect V T → Type 0
  Line e = Row (rules_seen c t f old) old.store (world_seen f old) origin.call at e

  abbrev LineOf : Next V T → List (KindSeen V T) → FolderUse → Type 0
  LineOf next kinds used = Line (record { next = next; kinds = kinds; folder = used; dies = false })

  module _ (new : ShelfSeen C F V T) where
    -- so the call goes on
    pub goes_on : {lock : LockMove} {to : At V T} {kinds : List (KindSeen V T)} {used : FolderUse} {room : ℕ} → LineOf (Goes lock to) kinds used
        → LeavesBy f old new kinds used (Goes lock to) origin.call room → Touches f old new kinds used → Equipped c t f to new → Steps c t f origin at old Moved to new
    goes_on {lock} {to} {kinds} {used} {room} line leaves touches equips =
        record {
          row = record { effect = _; row = line; comes = comes f old new kinds origin at (Goes lock to) used room leaves touches };
          equips = equips;
          store = leaves.store;
          codec = leaves.codec;
          waits = tt;
        }

    -- or ends
    pub ends : {reply : Reply V} {kinds : List (KindSeen V T)} {used : FolderUse} {room : ℕ} → LineOf (Ends reply) kinds used
        → LeavesBy f old new kinds used (Ends reply) origin.call room → Touches f old new kinds used → Steps c t f origin at old (Ended reply) Gone new
    ends {reply} {kinds} {used} {room} line leaves touches =
        record {
          row = record { effect = _; row = line; comes = comes f old new kinds origin at (Ends reply) used room leaves touches };
          equips = tt;
          store = leaves.store;
          codec = leaves.codec;
          waits = tt;
        }

    -- or ends behind what it asked of the folder, and then the lock is freed
    pub ends_behind : (mid : ShelfSeen C F V T) {reply : Reply V} {kinds : List (KindSeen V T)} {request : Request} {room : ℕ}
        → LineOf (Ends reply) kinds (Served request) → Leaves origin.call kinds old.owner room old mid → Serves request false (world_seen f old) (world_seen f mid)
        → Frees origin.call [] mid new → new.folder ≡ mid.folder → Steps c t f origin at old (Ended reply) Gone new
    ends_behind mid line leaves serves frees same = ends line (then_frees leaves frees) (record { folder = λ told. rw same (serves.folder told); spared = λ told spares. tt; tally = rw same serves.tally })

    -- or the folder fails, and it ends
    pub faults : (request : Request) (error : ℕ → UpdateError) (place : ℕ) → Line (fails request (error (length old.list + 1))) → Faults origin.call (f.tally new.folder).count place old new
        → Serves request true (world_seen f old) (world_seen f new) → Steps c t f origin at old (Ended (Failed (error place))) Gone new
    faults request error place line failed serves =
        rw failed.place (ends {reply = Failed (error (length old.list + 1))} {kinds = []} {used = Faulted request} line failed.leaves (refl, serves))

-- where a write meets a folder that fails
pub write_faults : {C F V T : Type 0} (c : codec_trait.Ghosts C V) (t : transform_trait.Ghosts T V) (f : folder_trait.Ghosts F) (origin : Origin) (stage : Stage) (plan : Plan V T) (place : ℕ) (old new : ShelfSeen C F V T)
    → Faults origin.call (f.tally new.folder).count place old new → (IsTrue f.told → request.Leaves (request_of stage plan) true (f.contents old.folder) (f.contents new.folder))
    → (IsTrue f.told → IsTrue f.spares → f.contents new.folder ≡ f.contents old.folder) → Tallies f.told (call_of (request_of stage plan)) true (f.tally old.folder) (f.tally new.folder) → Steps c t f origin (Writing stage plan) old (Ended (Failed (StorageFault place))) Gone new
write_faults c t f origin stage plan place old new failed folder spared tally =
    faults c t f origin (Writing stage plan) old new (request_of stage plan) StorageFault place write_fails failed (record { folder = folder; spared = spared; tally = tally })
