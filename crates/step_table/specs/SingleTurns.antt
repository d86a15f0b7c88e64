-- Single turns on the small store: some that follow the table, and some that do not.
use Rattle.std.specs.Prelude.{ℕ, true, [], ◌∷◌, Some, None}
use Rattle.hist_journal.specs.declared.seen.KindSeen.TheVariants.{Raise, Edit, Synced, Inited, Death, Restart}
use Rattle.folder_disk.specs.Contents.{Images}
use Rattle.folder_disk.specs.Contents as folder
use Rattle.shelf.specs.declared.examples.ExampleEdit.{ExampleEdit}
use Rattle.shelf.specs.declared.examples.ExampleEdit.TheVariants.{Set}
use Rattle.step_table.specs.Calls.{At, Changed, Call, First, Reading, Initialise, Serve, ServeUnlocked, Writing, Creating, SyncingScratch, SyncingFolder, Gone, Update, Read}
use Rattle.shelf.specs.ExampleStore as example
use Rattle.step_table.specs.ExampleTurns.{a, b, at_start, deadly, over, restarts}
use Rattle.shelf.specs.LawfulExamples as lawful
use Rattle.step_table.specs.World.{Turned, World}

-- the first call of client a, at a step
abbrev pub at_step : At ℕ ExampleEdit → Call ℕ ExampleEdit
at_step at = record { id = a 1; at = at; since = Some 0 }

abbrev pub gone : Call ℕ ExampleEdit
gone = at_step Gone

abbrev pub one : At ℕ ExampleEdit
one = Writing Creating (record { change = Edit (Set 1); value = 1; text = record { written = []; rest = 1 ∷ [] } })

-- the node died and lives again since the call began
abbrev pub restarted : World ℕ ExampleEdit
restarted = record (at_start example.empty) { history = lawful.former_life; version = 1 }

-- the call ends, and nothing changes
abbrev pub former_life_ends : Turned ℕ ExampleEdit
former_life_ends = record { world = restarted; call = at_step one; world_after = restarted; call_after = gone }

-- the call makes its scratch file
abbrev pub former_life_goes_on : Turned ℕ ExampleEdit
former_life_goes_on =
    record {
      world = restarted;
      call = at_step one;
      world_after = record restarted { folder = record restarted.folder { scratch = folder.Unsynced [] } };
      call_after = at_step (Writing SyncingScratch (record { change = Edit (Set 1); value = 1; text = record { written = []; rest = 1 ∷ [] } }));
    }

-- the call ends, and frees what is not its own any more
abbrev pub dead_call_frees_lock : Turned ℕ ExampleEdit
dead_call_frees_lock = record { world = record restarted { owner = Some (a 1) }; call = at_step one; world_after = restarted; call_after = gone }

-- a node that lives is brought back
abbrev pub living_node_restarted : Turned ℕ ExampleEdit
living_node_restarted =
    record {
      world = at_start example.empty;
      call = restarts (b 1) example.n1;
      world_after = record (at_start example.empty) { history = example.b 1 (Restart example.n1) ∷ [] };
      call_after = over (b 1) 0;
    }

-- another call owns the lock
abbrev pub owned : World ℕ ExampleEdit
owned = record (at_start example.empty) { owner = Some (b 1) }

-- the call takes it all the same
abbrev pub lock_taken_from_another : Turned ℕ ExampleEdit
lock_taken_from_another = record { world = owned; call = at_step (First (Update (Set 1))); world_after = record owned { owner = Some (a 1) }; call_after = at_step (Reading Initialise (Update (Set 1))) }

-- the node is initialised, and another call owns the lock
abbrev pub owned_ready : World ℕ ExampleEdit
owned_ready = record owned { history = example.a 1 (Inited example.n1) ∷ [] }

-- a read goes on without the lock, and takes it all the same
abbrev pub unlocked_read_takes_lock : Turned ℕ ExampleEdit
unlocked_read_takes_lock = record { world = owned_ready; call = at_step (First Read); world_after = record owned_ready { owner = Some (a 1) }; call_after = at_step (Reading ServeUnlocked Read) }

-- it waits for the lock
abbrev pub ready_read_waits : Turned ℕ ExampleEdit
ready_read_waits = record { world = owned_ready; call = at_step (First Read); world_after = owned_ready; call_after = at_step (First Read) }

-- a read under the lock
abbrev pub reading : World ℕ ExampleEdit
reading = record owned_ready { owner = Some (a 1) }

-- its value is given, and the lock stays with it
abbrev pub read_keeps_lock : Turned ℕ ExampleEdit
read_keeps_lock = record { world = reading; call = at_step (Reading Serve Read); world_after = reading; call_after = gone }

-- main was renamed, and a machine stop may still leave none
abbrev pub renamed : World ℕ ExampleEdit
renamed =
    record (at_start example.empty) {
      folder = record { main = Some (1 ∷ []); scratch = folder.Gone; kept = Images (None ∷ Some (1 ∷ []) ∷ []); first = None; alone = true };
      owner = Some (a 1);
      history = example.a 1 (Inited example.n1) ∷ example.a 1 Raise ∷ example.a 1 (Edit (Set 1)) ∷ [];
      version = 1;
    }

-- the update is acknowledged, and the folder was not synced
abbrev pub acknowledged_without_sync : Turned ℕ ExampleEdit
acknowledged_without_sync =
    record {
      world = renamed;
      call = at_step (SyncingFolder (Changed 3));
      world_after =
          record renamed {
            owner = None;
            history = example.a 1 (Inited example.n1) ∷ example.a 1 Raise ∷ example.a 1 (Edit (Set 1)) ∷ example.a 1 Synced ∷ [];
          };
      call_after = gone;
    }

-- a planned death strikes while the call owns the lock
abbrev pub doomed : World ℕ ExampleEdit
doomed = record (at_start deadly) { owner = Some (a 1); history = example.a 1 (Inited example.n1) ∷ example.a 1 Raise ∷ []; version = 1 }

-- the node is dead, and the death used up
abbrev pub dead : World ℕ ExampleEdit
dead = record doomed { deaths = []; history = example.a 1 (Inited example.n1) ∷ example.a 1 Raise ∷ example.a 1 (Death example.n1) ∷ [] }

-- the call syncs its scratch file next
abbrev pub syncing : Call ℕ ExampleEdit
syncing = at_step (Writing SyncingScratch (record { change = Edit (Set 1); value = 1; text = record { written = 1 ∷ []; rest = [] } }))

-- the lock stays with the dead
abbrev pub lock_left_held : Turned ℕ ExampleEdit
lock_left_held = record { world = doomed; call = syncing; world_after = dead; call_after = gone }

-- the death was used up before, and strikes all the same
abbrev pub death_strikes_twice : Turned ℕ ExampleEdit
death_strikes_twice = record { world = record doomed { deaths = [] }; call = syncing; world_after = record dead { owner = None }; call_after = gone }
