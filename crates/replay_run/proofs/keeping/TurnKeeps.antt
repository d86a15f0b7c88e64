-- A turn of a client's call keeps what is kept between the steps of a run.
use Rattle.std.proofs.Common.{inl, inr, List, length, Option, slice_set}
use Rattle.std.proofs.lemmas.List.{length-set}
use Rattle.shelf.specs.declared.store.Store.{Store}
use Rattle.step_table.proofs.Applying.{version_counts}
use Rattle.node_core.proofs.PublishedLemmas.{turn_quiet}
use Rattle.replay_run.specs.RunInvariant.{RunInvariant}
use Rattle.replay_run.specs.RunState.{RunState}
use Rattle.replay_run.specs.Settings.{PrefCached, PrefRules, Value}
use Rattle.replay_run.specs.Steps.{brought_back, emptied}
use Rattle.replay_run.proofs.keeping.CachesKept.{caches_kept, length-emptied}
use Rattle.replay_run.proofs.keeping.ClientBehind.{client_behind}
use Rattle.replay_run.proofs.keeping.ClientTurns.{ClientTurn, clients_after, knows, same, turned}
use Rattle.replay_run.proofs.keeping.EntriesKept.{built_kept, entries_kept, failing_kept, faults_kept}
use Rattle.replay_run.proofs.keeping.NewDeaths.{KeepsDeaths, turn_keeps_deaths}
use Rattle.replay_run.proofs.keeping.OtherClients.{client_stays}
use Rattle.replay_run.proofs.keeping.OwnersKept.{owner_kept}
use Rattle.replay_run.proofs.keeping.ReplacedClient.{homes_on}
use Rattle.replay_run.proofs.lists.SetLemmas.{found_then}

module _ {r : PrefRules} {M : Type 0} {s : Store Value M} {state : RunState} (k : ClientTurn r s state) where
  abbrev caches_set : List (Option PrefCached)
  caches_set = slice_set state.shared.caches k.client.node.0 k.cached_after

  abbrev pub state_after : RunState
  state_after = record { shared = record { world = k.w_after; caches = emptied (brought_back k.client k.now) caches_set }; clients = clients_after k }

  deaths_kept : KeepsDeaths s k.w_after
  deaths_kept = turn_keeps_deaths r s (turned k) k.takes.gave k.takes.turn (record { living = k.keeps.living; deaths = k.keeps.deaths; left = k.keeps.left; used = k.keeps.used }) (knows k)

  pub turn_keeps : RunInvariant r s state_after
  turn_keeps =
      let deaths = deaths_kept in
      record {
        clients =
            λ other c is.
            elim (found_then state.clients k.place other k.now c is) [
              | inl here ↦ (rw (here.0, here.1) (client_behind k))
              | inr there ↦ client_stays k other c there.0 there.1
            ];
        entries = entries_kept k;
        owner = owner_kept k;
        faults = faults_kept k;
        failing = failing_kept k;
        living = deaths.living;
        deaths = deaths.deaths;
        left = deaths.left;
        used = deaths.used;
        built = built_kept k;
        quiet = turn_quiet r s (turned k) k.takes.gave k.takes.turn (knows k) k.keeps.quiet;
        version = version_counts r s (turned k) k.takes.gave k.takes.turn k.keeps.version;
        cached = caches_kept k (brought_back k.client k.now);
        homes =
            rw (length-emptied (brought_back k.client k.now) caches_set, length-set state.shared.caches k.client.node.0 k.cached_after)
            (homes_on state.clients k.place k.client k.now k.found (same k).node (length state.shared.caches) k.keeps.homes);
      }
