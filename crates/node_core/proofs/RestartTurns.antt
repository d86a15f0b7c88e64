-- The one turn of a restart.
use Rattle.std.proofs.Common.{◌≡◌, inl, ℕ, List, [], ◌∷◌, length, None, Result, Ok, Err, refl, sym, ap}
use Rattle.store_traits.specs.declared.codec.Codec as codec_trait
use Rattle.store_traits.specs.declared.ids.CallId.{CallId}
use Rattle.store_traits.specs.declared.ids.NodeId.{NodeId}
use Rattle.store_traits.specs.declared.step.Step.TheVariants.{R1}
use Rattle.store_traits.specs.declared.transform.Transform as transform_trait
use Rattle.folder_disk.specs.declared.folder.Folder as folder_trait
use Rattle.hist_journal.specs.declared.seen.KindSeen.{KindSeen}
use Rattle.hist_journal.specs.declared.seen.KindSeen.TheVariants.{Restart}
use Rattle.hist_journal.specs.Folds.{raises_of}
use Rattle.shelf.specs.declared.answers.RestartError.{RestartError}
use Rattle.shelf.specs.declared.answers.RestartError.TheVariants.{Died, NotDead, NoMemory}
use Rattle.shelf.specs.Restarting.{Acts, RestartRow}
use Rattle.shelf.specs.ShelfSeen.{ShelfSeen}
use Rattle.shelf.proofs.Bools.{never}
use Rattle.step_table.specs.Calls.{At, Gone, Reply, Restarting}
use Rattle.step_table.specs.Rows.{finds_alive, lacks_room_to_restart, restarts}
use Rattle.step_table.specs.declared.progress.Progress.TheVariants.{Ended}
use Rattle.node_core.specs.declared.origin.Origin.{Origin}
use Rattle.node_core.specs.Restarting.{reply_of_restart}
use Rattle.node_core.specs.Step.{StepsTo}
use Rattle.node_core.specs.Steps.{Steps}
use Rattle.node_core.proofs.DyingTurns.{dead_raises, dead_steps}
use Rattle.node_core.proofs.RoomLemmas.{frees_spares}
use Rattle.node_core.proofs.RowLemmas.{ends, version_left}
use Rattle.node_core.proofs.TurnLemmas.{begun, turn_of}

module _ {C F V T : Type 0} (call : CallId) (node : NodeId) (old new : ShelfSeen C F V T) where
  -- a restart raises nothing
  pub restart_raises : (result : Result ℕ RestartError) → RestartRow call node result old new → raises_of new.list ≡ raises_of old.list
  restart_raises (Ok place) row = version_left row.0.frees
  restart_raises (Err (Died place)) row = dead_raises call R1 old new None place row
  restart_raises (Err NotDead) row = version_left row.0.frees
  restart_raises (Err NoMemory) row = version_left row.0.frees

module _ {C F V T : Type 0} (c : codec_trait.Ghosts C V) (t : transform_trait.Ghosts T V) (f : folder_trait.Ghosts F) (call : CallId) (node : NodeId) (old new : ShelfSeen C F V T) where
  -- it has not begun, and does this
  abbrev fresh : Origin
  fresh = record { call = call; since = None }

  abbrev here : At V T
  here = Restarting node

  abbrev StepsSo : Reply V → Type 0
  StepsSo reply = StepsTo c t f fresh here old (Ended reply) (begun fresh (length old.list)) Gone new

  module _ (folder : new.folder ≡ old.folder) where
    -- no death ends it
    acts : (kinds : List (KindSeen V T)) (reply : Reply V) → Acts call node kinds old new → Steps c t f (begun fresh (length old.list)) here old (Ended reply) Gone new → StepsSo reply
    acts kinds reply it did =
        record {
          turn = turn_of c t f fresh here Gone old new refl it.lives it.unplanned (Ended reply) did;
          call = refl;
          ready = λ running_on. never (sym running_on);
          store = it.frees.store;
          codec = it.frees.codec;
          waits = tt;
          spares = λ other owned unlike. inl (frees_spares c t f fresh it.frees (ap f.room folder) other owned unlike);
        }

    pub restart_steps : (result : Result ℕ RestartError) → RestartRow call node result old new → StepsSo (reply_of_restart result)
    restart_steps (Ok place) row = rw row.2 (acts (Restart node ∷ []) _ row.0 (ends c t f (begun fresh (length old.list)) here old new (restarts row.1) row.0.frees folder))
    restart_steps (Err (Died place)) row = dead_steps c t f fresh here old new refl place row
    restart_steps (Err NotDead) row = acts [] _ row.0 (ends c t f (begun fresh (length old.list)) here old new (finds_alive row.1) row.0.frees folder)
    restart_steps (Err NoMemory) row = acts [] _ row.0 (ends c t f (begun fresh (length old.list)) here old new (lacks_room_to_restart row.1) row.0.frees folder)
