-- Calls on the small store, whose turns they take, and what is there in the end.
use Rattle.std.specs.Prelude.{ℕ, suc, zero, List, [], ◌∷◌, ◌++◌, Option, Some, None, true}
use Rattle.store_traits.specs.declared.ids.CallId.{CallId}
use Rattle.store_traits.specs.declared.ids.NodeId.{NodeId}
use Rattle.store_traits.specs.declared.step.Step.TheVariants.{U1, U6}
use Rattle.store_traits.specs.declared.update_error.UpdateError.TheVariants.{Died, HistoryFull, NotDurable, StorageFault}
use Rattle.folder_disk.specs.Contents.{Contents, Images}
use Rattle.folder_disk.specs.Contents as folder
use Rattle.folder_disk.specs.Planned.{no_calls}
use Rattle.folder_disk.specs.Tally.{Tally}
use Rattle.folder_disk.specs.declared.call.CallCounts.{CallCounts}
use Rattle.folder_disk.specs.declared.call.FolderCall.TheVariants.{Rename, SyncFolder}
use Rattle.folder_disk.specs.declared.call.Planned.{Planned}
use Rattle.shelf.specs.declared.examples.ExampleEdit.{ExampleEdit}
use Rattle.shelf.specs.declared.examples.ExampleEdit.TheVariants.{Set, Add}
use Rattle.shelf.specs.declared.store.Store.{Store}
use Rattle.shelf.specs.ExampleStore.{meanings, encoded, reads, empty, holds_one, Entry, n1, n2}
use Rattle.shelf.specs.LawfulExamples as lawful
use Rattle.shelf.specs.Rules.{Rules}
use Rattle.step_table.specs.Calls.{Call, First, Restarting, Gone, Update, Read, Reply, Updated, Gave, Failed, Restarted}
use Rattle.step_table.specs.declared.progress.Progress.TheVariants.{Moved, Blocked, Ended}
use Rattle.step_table.specs.Runs.{Did, Scene}
use Rattle.step_table.specs.World.{World}

abbrev pub rules : Rules ℕ ExampleEdit
rules = record { meanings = meanings; encoded = encoded; reads = reads; absent = 0; weight = λ t. 16 }

-- the call with this number of client a, which is on n1
abbrev pub a : ℕ → CallId
a number = record { node = n1; client = record { 0 = 1 }; number = number }

-- of client b, which is on n2
abbrev pub b : ℕ → CallId
b number = record { node = n2; client = record { 0 = 2 }; number = number }

abbrev pub update : CallId → ExampleEdit → Call ℕ ExampleEdit
update id edit = record { id = id; at = First (Update edit); since = None }

abbrev pub read : CallId → Call ℕ ExampleEdit
read id = record { id = id; at = First Read; since = None }

abbrev pub restarts : CallId → NodeId → Call ℕ ExampleEdit
restarts id node = record { id = id; at = Restarting node; since = None }

-- a call in the end, whose earliest turn found so many entries
abbrev pub over : CallId → ℕ → Call ℕ ExampleEdit
over id since = record { id = id; at = Gone; since = Some since }

-- a folder in which a machine stop leaves main, and which had another main at the start
abbrev pub holding : Option (List ℕ) → Option (List ℕ) → Contents
holding first main = record { main = main; scratch = folder.Gone; kept = Images (main ∷ []); first = first; alone = true }

-- a folder's count of faults, the failures that are planned and the calls that were made
abbrev pub tally : ℕ → List Planned → CallCounts → Tally
tally count planned made = record { count = count; most = None; due = record { planned = planned; made = made; fuses = [] } }

abbrev pub at_start : Store ℕ (Unit {0}) → World ℕ ExampleEdit
at_start s = record { told = true; spares = true; folder = holding s.main s.main; sections = s.sections; owner = None; history = []; deaths = s.deaths; version = 0; tally = tally 0 [] no_calls }

-- the lock is free, no death is left, and these are main, the history, the version and the tally
abbrev pub at_end : Store ℕ (Unit {0}) → List ℕ → List Entry → ℕ → Tally → World ℕ ExampleEdit
at_end s main history version counted =
    record { told = true; spares = true; folder = holding s.main (Some main); sections = s.sections; owner = None; history = history; deaths = []; version = version; tally = counted }

abbrev pub times : ℕ → List (Did ℕ) → List (Did ℕ)
times zero turns = []
times (suc n) turns = turns ++ times n turns

-- the call at this place goes on, waits for the lock, or ends
abbrev pub goes : ℕ → Did ℕ
goes place = record { place = place; gave = Moved }

abbrev pub waits : ℕ → Did ℕ
waits place = record { place = place; gave = Blocked }

abbrev pub answers : ℕ → Reply ℕ → Did ℕ
answers place reply = record { place = place; gave = Ended reply }

-- two nodes add 1, and the second waits for the first
abbrev pub two_nodes : List (Did ℕ)
two_nodes =
    times 5 (goes 0 ∷ []) ++ waits 1 ∷ times 6 (goes 0 ∷ waits 1 ∷ []) ++ answers 0 (Updated 1) ∷ times 11 (goes 1 ∷ []) ++ answers 1 (Updated 2) ∷ []

abbrev pub two_nodes_start : Scene ℕ ExampleEdit
two_nodes_start = record { world = at_start empty; calls = update (a 1) (Add 1) ∷ update (b 1) (Add 1) ∷ [] }

abbrev pub two_nodes_end : Scene ℕ ExampleEdit
two_nodes_end =
    record {
      world = at_end empty (2 ∷ []) lawful.two_nodes 2 (tally 0 [] (record { read_main = 4; create = 2; append = 2; sync_scratch = 2; rename = 2; sync_folder = 2 }));
      calls = over (a 1) 0 ∷ over (b 1) 1 ∷ [];
    }

-- 1 is set where it is there already
abbrev pub equal_value : List (Did ℕ)
equal_value = times 6 (goes 0 ∷ []) ++ answers 0 (Updated 0) ∷ []

abbrev pub equal_value_start : Scene ℕ ExampleEdit
equal_value_start = record { world = at_start holds_one; calls = update (a 1) (Set 1) ∷ [] }

abbrev pub equal_value_end : Scene ℕ ExampleEdit
equal_value_end =
    record {
      world = at_end holds_one (1 ∷ []) lawful.equal_value 0 (tally 0 [] (record { read_main = 2; create = 0; append = 0; sync_scratch = 0; rename = 0; sync_folder = 1 }));
      calls = over (a 1) 0 ∷ [];
    }

-- the second node is initialised by a read, which then reads past an update that owns the lock; a later read gives what that left
abbrev pub reads_past : List (Did ℕ)
reads_past =
    goes 0 ∷ waits 1 ∷ times 3 (goes 0 ∷ []) ++ times 4 (goes 1 ∷ []) ++ times 6 (goes 0 ∷ []) ++ goes 1 ∷ answers 1 (Gave 0 0) ∷ goes 0 ∷ answers 0 (Updated 1)
    ∷ goes 2 ∷ answers 2 (Gave 1 1) ∷ []

abbrev pub reads_past_start : Scene ℕ ExampleEdit
reads_past_start = record { world = at_start empty; calls = update (a 1) (Set 1) ∷ read (b 1) ∷ read (b 2) ∷ [] }

abbrev pub reads_past_end : Scene ℕ ExampleEdit
reads_past_end =
    record {
      world = at_end empty (1 ∷ []) lawful.read_between 1 (tally 0 [] (record { read_main = 5; create = 1; append = 1; sync_scratch = 1; rename = 1; sync_folder = 1 }));
      calls = over (a 1) 0 ∷ over (b 1) 0 ∷ over (b 2) 5 ∷ [];
    }

-- a store that holds the number 1, and whose history has room for three entries
abbrev pub narrow : Store ℕ (Unit {0})
narrow = record holds_one { limits = record { file = 1048576; history = record { entries = 3; weight = 67108864 } } }

-- where the history is full, a node that is initialised reads on, and another can not be
abbrev pub full_history : List (Did ℕ)
full_history = equal_value ++ goes 1 ∷ answers 1 (Gave 0 1) ∷ answers 2 (Failed (HistoryFull 3 16)) ∷ []

abbrev pub full_history_start : Scene ℕ ExampleEdit
full_history_start = record { world = at_start narrow; calls = update (a 1) (Set 1) ∷ read (a 2) ∷ read (b 1) ∷ [] }

abbrev pub full_history_end : Scene ℕ ExampleEdit
full_history_end =
    record {
      world = at_end narrow (1 ∷ []) lawful.equal_value 0 (tally 0 [] (record { read_main = 3; create = 0; append = 0; sync_scratch = 0; rename = 0; sync_folder = 1 }));
      calls = over (a 1) 0 ∷ over (a 2) 3 ∷ over (b 1) 3 ∷ [];
    }

-- a store in which the first call of client a kills its node before it syncs the scratch file
abbrev pub deadly : Store ℕ (Unit {0})
deadly = record empty { deaths = record { call = a 1; step = U6 } ∷ [] }

-- two clients go in turn; the first dies behind its raise, the second updates, and a later call of the dead node ends at once
abbrev pub death_after_raise : List (Did ℕ)
death_after_raise =
    times 3 (goes 0 ∷ waits 1 ∷ []) ++ goes 0 ∷ goes 1 ∷ times 3 (waits 0 ∷ goes 1 ∷ []) ++ times 5 (goes 0 ∷ waits 1 ∷ [])
    ++ answers 0 (Failed (Died 4)) ∷ times 7 (goes 1 ∷ []) ++ answers 1 (Updated 1) ∷ answers 2 (Failed (Died 4)) ∷ []

abbrev pub death_start : Scene ℕ ExampleEdit
death_start = record { world = at_start deadly; calls = update (a 1) (Set 1) ∷ update (b 1) (Set 2) ∷ update (a 2) (Set 3) ∷ [] }

abbrev pub death_end : Scene ℕ ExampleEdit
death_end =
    record {
      world = at_end deadly (2 ∷ []) lawful.death_after_raise 2 (tally 0 [] (record { read_main = 4; create = 2; append = 2; sync_scratch = 1; rename = 1; sync_folder = 1 }));
      calls = over (a 1) 0 ∷ over (b 1) 0 ∷ over (a 2) 7 ∷ [];
    }

-- a store in which the first call of client a kills its node before it begins its update
abbrev pub short_lived : Store ℕ (Unit {0})
short_lived = record empty { deaths = record { call = a 1; step = U1 } ∷ [] }

-- a call initialises its node and dies with it; another node brings that back, which is initialised again and updates
abbrev pub restart : List (Did ℕ)
restart = times 4 (goes 0 ∷ []) ++ answers 0 (Failed (Died 2)) ∷ answers 1 (Restarted 3) ∷ times 11 (goes 2 ∷ []) ++ answers 2 (Updated 1) ∷ []

abbrev pub restart_start : Scene ℕ ExampleEdit
restart_start = record { world = at_start short_lived; calls = update (a 1) (Set 1) ∷ restarts (b 1) n1 ∷ update (a 2) (Set 2) ∷ [] }

abbrev pub restart_end : Scene ℕ ExampleEdit
restart_end =
    record {
      world = at_end short_lived (2 ∷ []) lawful.restarted 1 (tally 0 [] (record { read_main = 3; create = 1; append = 1; sync_scratch = 1; rename = 1; sync_folder = 1 }));
      calls = over (a 1) 0 ∷ over (b 1) 2 ∷ over (a 2) 3 ∷ [];
    }

-- the first rename is planned to fail
abbrev pub first_rename : List Planned
first_rename = record { call = Rename; number = 1 } ∷ []

-- the rename of a call fails, and the next call of the client goes well
abbrev pub rename_fails : List (Did ℕ)
rename_fails = times 10 (goes 0 ∷ []) ++ answers 0 (Failed (StorageFault 3)) ∷ times 7 (goes 1 ∷ []) ++ answers 1 (Updated 1) ∷ []

abbrev pub rename_fails_start : Scene ℕ ExampleEdit
rename_fails_start = record { world = record (at_start empty) { tally = tally 0 first_rename no_calls }; calls = update (a 1) (Set 1) ∷ update (a 2) (Set 2) ∷ [] }

abbrev pub rename_fails_end : Scene ℕ ExampleEdit
rename_fails_end =
    record {
      world = at_end empty (2 ∷ []) lawful.rename_fails 2 (tally 1 first_rename (record { read_main = 3; create = 2; append = 2; sync_scratch = 2; rename = 2; sync_folder = 1 }));
      calls = over (a 1) 0 ∷ over (a 2) 3 ∷ [];
    }

-- the first sync of the folder is planned to fail
abbrev pub first_sync : List Planned
first_sync = record { call = SyncFolder; number = 1 } ∷ []

-- the sync of the folder fails behind the rename
abbrev pub sync_fails : List (Did ℕ)
sync_fails = times 11 (goes 0 ∷ []) ++ answers 0 (Failed (NotDurable 3)) ∷ []

abbrev pub sync_fails_start : Scene ℕ ExampleEdit
sync_fails_start = record { world = record (at_start empty) { tally = tally 0 first_sync no_calls }; calls = update (a 1) (Set 1) ∷ [] }

-- a machine stop may leave no file or the new one
abbrev pub sync_fails_end : Scene ℕ ExampleEdit
sync_fails_end =
    record {
      world = record (at_end empty (1 ∷ []) lawful.sync_fails 1 (tally 1 first_sync (record { read_main = 2; create = 1; append = 1; sync_scratch = 1; rename = 1; sync_folder = 1 }))) { folder = record (holding None (Some (1 ∷ []))) { kept = Images (None ∷ Some (1 ∷ []) ∷ []) } };
      calls = over (a 1) 0 ∷ [];
    }
