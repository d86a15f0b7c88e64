use Rattle.std.proofs.Common.{◌≡◌, ℕ, true, false, length, Option, Some, None, refl, ap, arith}
use Rattle.store_traits.specs.declared.ids.CallId.{CallId}
use Rattle.store_traits.specs.declared.update_error.UpdateError.TheVariants.{Died}
use Rattle.folder_disk.specs.Contents.{Contents, Kept, Images, Wild}
use Rattle.hist_journal.specs.Nodes.{is_dead, is_ready, last_mark}
use Rattle.hist_journal.specs.Folds.{edition_of}
use Rattle.shelf.specs.declared.examples.ExampleEdit.{ExampleEdit}
use Rattle.shelf.specs.Deaths.{last_death}
use Rattle.shelf.specs.ExampleStore as example
use Rattle.shelf.proofs.Bools.{never}
use Rattle.step_table.specs.Calls.{Changed, Failed, Gave, Reply, Restarted, Restarting, SyncingFolder, Updated}
use Rattle.step_table.specs.Effects.{Ceases, Comes, Effect, does}
use Rattle.step_table.specs.ExampleTurns.{a, b, at_start, deadly, rules}
use Rattle.step_table.specs.Rows.{Row, acknowledges, finds_alive, lacks_room_to_restart, restarts, sync_fails, syncs_scratch, write_fails}
use Rattle.step_table.specs.SingleTurns as single
use Rattle.step_table.specs.World.{World, begin}
use Rattle.step_table.specs.declared.progress.Progress.{Progress}
use Rattle.step_table.specs.declared.progress.Progress.TheVariants.{Moved, Blocked, Ended}
use Rattle.step_table.proofs.Applying.{dead_turn_changes_nothing, ended_owns_nothing}
use Rattle.step_table.proofs.LockKept.{turn_leaves_lock}
use Rattle.step_table.proofs.LockLemmas.{none_not_some}
use Rattle.step_table.proofs.Waiting.{turn_has_to_wait, turn_waits}
use Rattle.step_table.proofs.examples.wrong_turns_are_refused.Goals as goal

image_count : Kept → ℕ
image_count (Images images) = length images
image_count Wild = 0

client_of : Option CallId → ℕ
client_of None = 0
client_of (Some call) = call.client.0

never_ends : (reply : Reply ℕ) → ◌≡◌ {A = Progress (Reply ℕ)} Moved (Ended reply) → ⊥
never_ends reply same = cc

never_waits : ◌≡◌ {A = Progress (Reply ℕ)} Moved Blocked → ⊥
never_waits same = cc

-- none of the rows of a restart gives that of a node that lives
never_restarted : {e : Effect ℕ ExampleEdit} → Row rules example.empty (at_start example.empty) (b 1) (Restarting example.n1) e → Comes (begin single.living_node_restarted) e (Ended (Restarted 1)) → ⊥
unfolding is_dead last_mark
never_restarted (finds_alive alive) it = let given = it.given in cc
never_restarted (lacks_room_to_restart dead) it = never dead
never_restarted (restarts dead) it = never dead

-- nor does one that writes the scratch file end with a death
never_dies : {e : Effect ℕ ExampleEdit} → Row rules deadly single.death_strikes_twice.world (a 1) single.syncing.at e → Comes (begin single.death_strikes_twice) e (Ended (Failed (Died 3))) → ⊥
never_dies syncs_scratch it = let given = it.given in cc
never_dies write_fails it = let given = it.given in cc

-- the row that acknowledges syncs the folder, and the other row gives another answer
never_unsynced : {e : Effect ℕ ExampleEdit} → Row rules example.empty single.renamed (a 1) (SyncingFolder (Changed 3)) e
    → Comes (begin single.acknowledged_without_sync) e (Ended (Updated 1)) → ⊥
unfolding image_count
never_unsynced acknowledges it = let count : ◌≡◌ {A = ℕ} 2 1 = ap (λ (c : Contents). image_count c.kept) (it.used.folder refl) in omega (arith, count)
never_unsynced sync_fails it = let given = it.given in cc

pub returns : goal.returns
unfolding is_dead is_ready last_mark last_death edition_of client_of
returns c =
    record {
      former_life_ends =
          record { effect = does (Ceases 3); allowed = record { place = 3; last = refl; is = refl }; comes = record { given = refl; used = tt; world = refl; call = refl } };
      former_life_goes_on = λ it. never_ends _ (rw it.allowed.is at it.comes.given);
      lock_taken_from_another =
          λ it. never_waits (turn_has_to_wait rules example.empty single.lock_taken_from_another Moved it refl refl refl (λ same. (let client : 2 ≡ 1 = ap (λ (call : CallId). call.client.0) same in omega arith)));
      unlocked_read_takes_lock =
          λ it. (let owner : ◌≡◌ {A = Option CallId} (Some (a 1)) (Some (b 1)) = (turn_leaves_lock rules example.empty single.unlocked_read_takes_lock Moved it).keeps (b 1) refl refl in
          let client : 1 ≡ 2 = ap (λ (o : Option CallId). client_of o) owner in omega arith);
      read_keeps_lock = λ it. ended_owns_nothing rules example.empty single.read_keeps_lock (Gave 0 0) it refl refl;
      ready_read_waits = λ it. (let locks : false ≡ true = (turn_waits rules example.empty single.ready_read_waits it).2 in cc);
      acknowledged_without_sync = λ it. never_unsynced it.allowed it.comes;
      lock_left_held =
          λ it. (let owner : ◌≡◌ {A = Option CallId} (Some (a 1)) None = ap (λ (w : World ℕ ExampleEdit). w.owner) (rw it.allowed at it.comes.world) in cc);
      death_strikes_twice = λ it. never_dies it.allowed it.comes;
      dead_call_frees_lock =
          λ it. (let owner : ◌≡◌ {A = Option CallId} None (Some (a 1)) = ap (λ (w : World ℕ ExampleEdit). w.owner) (dead_turn_changes_nothing rules example.empty single.dead_call_frees_lock _ it refl).world in none_not_some (a 1) owner);
      living_node_restarted = λ it. never_restarted it.allowed it.comes;
    }
