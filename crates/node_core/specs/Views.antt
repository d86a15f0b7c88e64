-- A call and the world that it goes in, in the words of the step table.
use Rattle.std.specs.Prelude.{ℕ, List, [], Option, None, option_map}
use Rattle.folder_disk.specs.declared.folder.Folder as folder_trait
use Rattle.hist_journal.specs.declared.seen.KindSeen.{KindSeen}
use Rattle.hist_journal.specs.Folds.{raises_of}
use Rattle.hist_journal.specs.View.{kind_seen}
use Rattle.scratch_rename.specs.Filling.{Filling}
use Rattle.shelf.specs.ShelfSeen.{ShelfSeen}
use Rattle.step_table.specs.Calls.{Ask, At, Call, Plan}
use Rattle.step_table.specs.Calls as at
use Rattle.step_table.specs.World.{World, Turned}
use Rattle.value_cache.specs.Cached.{Cached, cached_seen}
use Rattle.node_core.specs.declared.change.Change.{Change}
use Rattle.node_core.specs.declared.init_call.InitCall.{InitCall}
use Rattle.node_core.specs.declared.init_call.InitCall.TheVariants as init
use Rattle.node_core.specs.declared.origin.Origin.{Origin}
use Rattle.node_core.specs.declared.read_call.ReadState.{ReadState}
use Rattle.node_core.specs.declared.read_call.ReadState.TheVariants as reading
use Rattle.node_core.specs.declared.update_call.State.{State}
use Rattle.node_core.specs.declared.update_call.State.TheVariants as state
use Rattle.node_core.specs.declared.write_call.WriteCall.{WriteCall}
use Rattle.node_core.specs.declared.write_call.WriteCall.TheVariants as write

-- a value change, and the value that it makes
pub record Changing (V T : Type 0) : Type 0 where
  pub kind : KindSeen V T
  pub value : V

module _ {V T : Type 0} where
  -- a plan of which nothing is written, one that is being written, and one that is written
  abbrev pub unwritten : Changing V T → List ℕ → Plan V T
  unwritten change bytes = record { change = change.kind; value = change.value; text = record { written = []; rest = bytes } }

  abbrev pub filled : Changing V T → Filling → Plan V T
  filled change text = record { change = change.kind; value = change.value; text = text }

  abbrev pub whole : Changing V T → List ℕ → Plan V T
  whole change bytes = record { change = change.kind; value = change.value; text = record { written = bytes; rest = [] } }

module _ {P C T F V : Type 0} where
  abbrev pub changing : Change P C T F V → Changing V T
  changing change = record { kind = kind_seen change.kind; value = change.value.value }

  abbrev pub write_seen : WriteCall P C T F V → At V T
  write_seen (write.Raise plan change) = at.Raising (unwritten (changing change) plan)
  write_seen (write.Create plan change) = at.Writing at.Creating (unwritten (changing change) plan)
  write_seen (write.Append plan change) = at.Writing at.Appending (filled (changing change) plan)
  write_seen (write.SyncScratch plan change) = at.Writing at.SyncingScratch (filled (changing change) plan)
  write_seen (write.Rename plan change) = at.Writing at.Renaming (whole (changing change) plan)

  abbrev pub init_seen : Ask T → InitCall P C T F V → At V T
  init_seen ask init.Read = at.Reading at.Initialise ask
  init_seen ask (init.Migrate value) = at.Migrating ask value.value
  init_seen ask init.Finish = at.Finishing ask

  abbrev pub state_seen : State P C T F V → At V T
  state_seen (state.First edit) = at.First (at.Update edit)
  state_seen (state.Initialise edit init) = init_seen (at.Update edit) init
  state_seen (state.Read edit) = at.Reading at.Serve (at.Update edit)
  state_seen (state.Write write) = write_seen write
  state_seen (state.SyncChanged place kept) = at.SyncingFolder (at.Changed place)
  state_seen (state.SyncKept edit) = at.SyncingFolder (at.Kept edit)
  state_seen state.Gone = at.Gone

  abbrev pub read_seen : ReadState P C T F V → At V T
  read_seen reading.Look = at.First at.Read
  read_seen reading.First = at.First at.Read
  read_seen (reading.Initialise init) = init_seen at.Read init
  read_seen reading.Locked = at.Reading at.Serve at.Read
  read_seen reading.Unlocked = at.Reading at.ServeUnlocked at.Read
  read_seen (reading.Gone kept) = at.Gone

  -- what is still to be published
  abbrev pub kept_in : State P C T F V → Option (Cached V)
  kept_in (state.SyncChanged place kept) = option_map cached_seen kept
  kept_in other = None

  abbrev pub kept_by_read : ReadState P C T F V → Option (Cached V)
  kept_by_read (reading.Gone kept) = option_map cached_seen kept
  kept_by_read other = None

module _ {V T : Type 0} where
  -- a call of this origin at this step
  abbrev pub call_seen : Origin → At V T → Call V T
  call_seen origin at = record { id = origin.call; at = at; since = origin.since }

module _ {C F V T : Type 0} (f : folder_trait.Ghosts F) where
  -- the world of a shelf: there are no old settings, and the version word has the number of raises
  abbrev pub world_seen : ShelfSeen C F V T → World V T
  world_seen s =
      record {
        told = f.told;
        spares = f.spares;
        folder = f.contents s.folder;
        sections = [];
        owner = s.owner;
        history = s.list;
        deaths = s.deaths;
        version = raises_of s.list;
        tally = f.tally s.folder;
      }

  -- one turn of it
  abbrev pub turned : Origin → At V T → ShelfSeen C F V T → Origin → At V T → ShelfSeen C F V T → Turned V T
  turned origin at s origin_after at_after s_after =
      record {
        world = world_seen s;
        call = call_seen origin at;
        world_after = world_seen s_after;
        call_after = call_seen origin_after at_after;
      }
