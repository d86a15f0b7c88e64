-- What an effect makes of world and call, computed, where the folder goes well or fails as that is due.
use Rattle.std.proofs.Common.{◌≡◌, ◌^◌, nat_lt, Bool, true, false, ◌&&◌, not, ◌++◌, [], refl}
use Rattle.folder_disk.specs.Contents.{Contents, Unsynced, Synced, scratch_bytes, renamed, folder_synced}
use Rattle.folder_disk.specs.Contents as folder
use Rattle.folder_disk.specs.Due as plan
use Rattle.step_table.specs.Calls.{Call}
use Rattle.step_table.specs.Effects.{Comes, Effect, Faulted, FolderUse, Served, Unused, call_by, gave_by, world_by}
use Rattle.step_table.specs.Requests.{Append, Create, Leaves, ReadMain, Rename, Request, SyncFolder, SyncScratch, call_of}
use Rattle.step_table.specs.World.{World, Turned, begin}
use Rattle.step_table.proofs.Tallied.{failed_so, has_failed, well_so, went_well}

-- what a request that goes well makes of the folder
abbrev made_by : Request → Contents → Contents
made_by ReadMain c = c
made_by Create c = record c { scratch = Unsynced [] }
made_by (Append piece) c = record c { scratch = Unsynced (scratch_bytes c.scratch ++ piece) }
made_by SyncScratch c = record c { scratch = Synced (scratch_bytes c.scratch) }
made_by Rename c = renamed c
made_by SyncFolder c = folder_synced c

leaves_well : (request : Request) (c : Contents) → Leaves request false c (made_by request c)
leaves_well ReadMain c = refl
leaves_well Create c = record { main = refl; kept = refl; first = refl; alone = refl; scratch = refl }
leaves_well (Append piece) c = record { main = refl; kept = refl; first = refl; alone = refl; scratch = refl }
leaves_well SyncScratch c = record { main = refl; kept = refl; first = refl; alone = refl; scratch = refl }
leaves_well Rename c = refl
leaves_well SyncFolder c = refl

-- one that fails leaves all as it was
leaves_ill : (request : Request) (c : Contents) → Leaves request true c c
leaves_ill ReadMain c = refl
leaves_ill Create c = record { main = refl; kept = refl; first = refl; alone = refl; scratch = folder.same }
leaves_ill (Append piece) c = record { main = refl; kept = refl; first = refl; alone = refl; scratch = folder.same }
leaves_ill SyncScratch c = record { main = refl; kept = refl; first = refl; alone = refl; scratch = folder.same }
leaves_ill Rename c = refl
leaves_ill SyncFolder c = refl

-- a turn of a call in a world, where the call has begun
module _ {V T : Type 0} (w : World V T) (c : Call V T) where
  abbrev pub turn_to : World V T → Turned V T
  turn_to now = record { world = w; call = c; world_after = now; call_after = c }

  -- the call as its turn begins
  abbrev pub begun : Call V T
  begun = (begin (turn_to w)).call

  -- what the folder leaves
  abbrev left : FolderUse → World V T
  left Unused = w
  left (Served request) = record w { folder = made_by request w.folder; tally = went_well (call_of request) w.tally }
  left (Faulted request) = record w { tally = has_failed (call_of request) w.tally }

  -- the world and the turn that the effect makes
  abbrev pub now_by : Effect V T → World V T
  now_by e = world_by (turn_to (left e.folder)) e

  abbrev pub turned_by : Effect V T → Turned V T
  turned_by e = record { world = w; call = c; world_after = now_by e; call_after = call_by e c }

  -- whether the folder goes well or fails as that is due
  abbrev pub is_due : FolderUse → Bool
  is_due Unused = false
  is_due (Served request) = plan.fails (call_of request) w.tally.due
  is_due (Faulted request) = plan.fails (call_of request) w.tally.due

  abbrev pub is_as_due : FolderUse → Bool
  is_as_due Unused = true
  is_as_due (Served request) = not (plan.fails (call_of request) w.tally.due) && nat_lt w.tally.count (2 ^ 64)
  is_as_due (Faulted request) = plan.fails (call_of request) w.tally.due && nat_lt w.tally.count (2 ^ 64)

  pub comes_by : (used : FolderUse) (e : Effect V T) → is_as_due used ≡ true
      → Comes (turned_by (record e { folder = used })) (record e { folder = used }) (gave_by e.next)
  comes_by Unused e is = record { given = refl; used = tt; world = refl; call = refl }
  comes_by (Served request) e is =
      record {
        given = refl;
        used = record { folder = λ told. leaves_well request w.folder; spared = λ told spares. tt; tally = well_so w.told (call_of request) w.tally is };
        world = refl;
        call = refl;
      }
  comes_by (Faulted request) e is =
      record {
        given = refl;
        used = record { folder = λ told. leaves_ill request w.folder; spared = λ told spares. refl; tally = failed_so w.told (call_of request) w.tally is };
        world = refl;
        call = refl;
      }
