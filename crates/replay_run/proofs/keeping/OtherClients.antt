-- What a turn leaves of clients at other places.
use Rattle.std.proofs.Common.{◌≡◌, ◌∙◌, ◌==◌, ℕ, false, Some, slice_get, refl, sym}
use Rattle.std.specs.List.{list_any}
use Rattle.std.proofs.lemmas.Bool.{ne_eqb}
use Rattle.std.proofs.lemmas.Option.{IfSome_then}
use Rattle.shelf.specs.declared.store.Store.{Store}
use Rattle.shelf.specs.Deaths.{died_since}
use Rattle.shelf.specs.Entries.{is_any, is_own}
use Rattle.shelf.specs.Meanwhile.{NoneOf}
use Rattle.shelf.specs.Places.{is_up_to}
use Rattle.shelf.proofs.DeathLemmas.{died_since-front}
use Rattle.step_table.proofs.Applying.{none_passes}
use Rattle.node_core.specs.Between.{Between}
use Rattle.node_core.specs.Knows.{Knows}
use Rattle.node_core.proofs.BetweenLemmas.{between_keeps_knowledge}
use Rattle.node_core.proofs.SilenceLemmas.{still_silent}
use Rattle.node_core.proofs.SparingLemmas.{turn_spares}
use Rattle.replay_run.specs.ClientInvariant.{CallInvariant, ClientInvariant}
use Rattle.replay_run.specs.RunState.{Client, RunState, call_at}
use Rattle.replay_run.specs.Settings.{PrefCall, PrefRules, PrefWorld, Value}
use Rattle.replay_run.proofs.keeping.AnswerLemmas.{answers_more}
use Rattle.replay_run.proofs.keeping.CallKept.{middle_none}
use Rattle.replay_run.proofs.keeping.ClientTurns.{ClientTurn, added, adds, at_place, call, knows, more, turned}
use Rattle.replay_run.proofs.keeping.StillCalls.{entries_more, for_more}

module _ {r : PrefRules} {M : Type 0} {s : Store Value M} {state : RunState} (k : ClientTurn r s state) (other : ℕ) (c : Client) (apart : other ≡ k.place → ⊥) (found : slice_get state.clients other ≡ Some c) where
  abbrev w : PrefWorld
  w = state.shared.world

  theirs : ClientInvariant r s other w c
  theirs = k.keeps.clients other c found

  differ : (c.id.0 == (call k).id.client.0) ≡ false
  differ = ne_eqb c.id.0 (call k).id.client.0 (λ same. apart (sym theirs.id ∙ (same ∙ at_place k)))

  module _ (o : PrefCall) (its : CallInvariant r s c w o) where
    o_differs : (o.id.client.0 == (call k).id.client.0) ≡ false
    o_differs = rw its.id differ

    none_own : NoneOf o.id (more k)
    none_own =
        none_passes (call k).id (added k) (is_own is_any o.id)
        (λ kind. rw (middle_none (o.id.node.0 == (call k).id.node.0) (o.id.client.0 == (call k).id.client.0) (o.id.number == (call k).id.number) o_differs) refl)

    none_ours : list_any (is_up_to o.id) (more k) ≡ false
    none_ours = none_passes (call k).id (added k) (is_up_to o.id) (λ kind. rw o_differs refl)

    -- it had not died before
    pub alive_before : died_since o.id.node o.since k.w_after.history ≡ false → died_since o.id.node o.since w.history ≡ false
    alive_before alive = died_since-front o.id.node o.since w.history (more k) (rw (adds k) at alive)

    -- so it knew what it knows, and its turn leaves that
    pub knew : died_since o.id.node o.since k.w_after.history ≡ false → Knows r s w o
    knew alive = its.knows (alive_before alive)

    pub between : died_since o.id.node o.since k.w_after.history ≡ false → Between o w k.w_after
    between alive = turn_spares r s (turned k) k.takes.gave k.takes.turn (knows k) o o_differs (knew alive)

    running_stays : CallInvariant r s c k.w_after o
    running_stays =
        record {
          asked = its.asked;
          at_it = its.at_it;
          id = its.id;
          is_for = rw (adds k) (for_more o.id w.history (more k) none_own its.asked o.at its.is_for);
          goes_on = its.goes_on;
          entries = rw (adds k) (entries_more o.id w.history (more k) none_own o.at its.entries);
          knows = λ alive. between_keeps_knowledge r s o w k.w_after (knew alive) (between alive) alive;
          silent = λ died. rw (adds k) (still_silent o.id o.since w.history (more k) its.silent none_ours (rw (adds k) at died));
          spared = its.spared;
        }

  pub client_stays : ClientInvariant r s other k.w_after c
  client_stays =
      record {
        id = theirs.id;
        running = IfSome_then c.running theirs.running running_stays;
        answers =
            rw (adds k)
            (answers_more r s c w.history (more k) c.answered theirs.answers (λ nth within. none_passes (call k).id (added k) (is_up_to (call_at c nth)) (λ kind. rw differ refl)));
      }
