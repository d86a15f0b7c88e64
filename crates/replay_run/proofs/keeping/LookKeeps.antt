-- A look of a client's read keeps what is kept between the steps of a run.
use Rattle.std.proofs.Common.{◌≡◌, ◌∙◌, inl, inr, ◌≤◌, ℕ, List, [], ◌∷◌, ◌++◌, length, Option, Some, None, IfSome, slice_get, slice_set, refl, sym, ap, arith}
use Rattle.std.proofs.lemmas.Option.{IfSome_then}
use Rattle.hist_journal.specs.Folds.{edition_of, raises_of}
use Rattle.prefs_text.specs.declared.seen.AnswerSeen.TheVariants as seen
use Rattle.script_lang.specs.GoodUpdates.{is_restart}
use Rattle.script_lang.specs.declared.plan.run_line.Act.TheVariants as act
use Rattle.shelf.specs.declared.store.Store.{Store}
use Rattle.shelf.specs.Entries.{is_update}
use Rattle.shelf.proofs.EachLemmas.{each_push}
use Rattle.step_table.specs.Caching.{found}
use Rattle.step_table.proofs.Publishing.{found_is_kept}
use Rattle.value_cache.specs.Truth.{IsOfPrefix}
use Rattle.replay_run.specs.Answering.{behind_look}
use Rattle.replay_run.specs.ClientInvariant.{ClientInvariant, IsTrueAnswer}
use Rattle.replay_run.specs.RunInvariant.{ReadsWell, RunInvariant, begun}
use Rattle.replay_run.specs.RunState.{Client, RunState, act_now, call_at, new_call}
use Rattle.replay_run.specs.Settings.{PrefCached, PrefRules, PrefWorld, Value}
use Rattle.replay_run.proofs.keeping.AnswerLemmas.{answers_same, shown_within}
use Rattle.replay_run.proofs.keeping.BehindTurns.{IsSameClient, line_of, look_same}
use Rattle.replay_run.proofs.keeping.CallKept.{call_same, new_kept, none_own}
use Rattle.replay_run.proofs.keeping.OwnEdits.{none_carry}
use Rattle.replay_run.proofs.keeping.ReplacedClient.{entries_on, homes_on, owner_apart}
use Rattle.replay_run.proofs.lists.OptionLemmas.{nothing, one_of_it}
use Rattle.replay_run.proofs.lists.SetLemmas.{found_then}
use Rattle.replay_run.proofs.lists.SetViews.{all_found}

module _ (r : PrefRules) {M : Type 0} (s : Store Value M) (state : RunState) (place : ℕ) (client : Client) (kept : Option PrefCached) (at_place : slice_get state.clients place ≡ Some client)
    (cache : slice_get state.shared.caches client.node.0 ≡ Some kept) (asked : act_now client ≡ Some act.Read) (idle : client.running ≡ None) (keeps : RunInvariant r s state) (well : ReadsWell r s state.shared.world) where
  abbrev w : PrefWorld
  w = state.shared.world

  mine : ClientInvariant r s place w client
  mine = keeps.clients place client at_place

  -- what is found is of a prefix that is as late as now
  abbrev OfPrefix : PrefCached → Type 0
  OfPrefix = IsOfPrefix r.meanings.after s.base w.history

  kept_is : IfSome kept OfPrefix
  kept_is = all_found (λ kept. IfSome kept OfPrefix) state.shared.caches client.node.0 kept cache keeps.cached

  of_found : (one : PrefCached) → kept ≡ Some one → OfPrefix one
  of_found one is = let it = kept_is in rw is at it

  found_late : (one : PrefCached) → found kept w.version ≡ Some one → edition_of w.history ≡ one.edition
  found_late one is =
      let seen = found_is_kept kept w.version one is in
      let it = of_found one seen.0 in
      let raised : raises_of w.history ≡ raises_of it.front = sym keeps.version ∙ (sym seen.1 ∙ it.of.version) in
      (well.fresh it.front it.back it.is it.of.quiet raised).1 ∙ sym it.of.edition

  -- the answer tells the value of that prefix
  true_found : (one : PrefCached) → found kept w.version ≡ Some one → IsTrueAnswer r s w.history client client.answered (line_of (new_call client act.Read).id (seen.Read one.edition one.value))
  true_found one is =
      let it = of_found one (found_is_kept kept w.version one is).0 in
      let none = none_own state.clients place client at_place mine.id idle is_update w.history keeps.entries in
      record {
        act = act.Read;
        asked = asked;
        call = refl;
        poster = refl;
        explained = record { front = it.front; back = it.back; is = it.is; holds = record { reached = sym it.of.edition; value = it.of.value } };
        late = rw (← found_late one is) (shown_within r s client w.history client.answered mine.answers);
        none = λ out. none;
        restarts = λ out. none_own state.clients place client at_place mine.id idle is_restart w.history keeps.entries;
        spared = tt;
        carried = none_carry (call_at client (length client.answered)) act.Read w.history none;
      }

  client_behind : (o : Option PrefCached) → found kept w.version ≡ o → ClientInvariant r s place w (behind_look client o)
  client_behind None is =
      record {
        id = mine.id;
        running = call_same r s client (behind_look client None) w (new_call client act.Read) refl (λ asked is. is) (new_kept state.clients place client at_place mine.id idle r s act.Read asked w keeps.entries keeps.living tt);
        answers = answers_same r s client (behind_look client None) w.history client.answered refl refl refl (λ nth a is. is) mine.answers;
      }
  client_behind (Some one) is =
      let line = line_of (new_call client act.Read).id (seen.Read one.edition one.value) in
      record {
        id = mine.id;
        running = tt;
        answers =
            answers_same r s client (behind_look client (Some one)) w.history (client.answered ++ line ∷ []) refl refl refl (λ nth a is. is)
            (each_push (IsTrueAnswer r s w.history client) client.answered line mine.answers (true_found one is));
      }

  module _ (now : Client) (same : IsSameClient client now) (behind : ClientInvariant r s place w now) where
    abbrev clients_after : List Client
    clients_after = slice_set state.clients place now

    begun_more : begun client ≤ begun now
    begun_more = rw (same.begun, idle) omega arith

    now_keeps : RunInvariant r s (record state { clients = clients_after })
    now_keeps =
        record {
          clients =
              λ other c is.
              elim (found_then state.clients place other now c is) [
                | inl here ↦ (rw (here.0, here.1) behind)
                | inr there ↦ keeps.clients other c there.1
              ];
          entries = entries_on state.clients place client now at_place (λ nth. rw (same.id, same.node, same.earlier) refl) begun_more w.history keeps.entries;
          owner =
              IfSome_then w.owner keeps.owner
              (λ id it.
              owner_apart state.clients place client now at_place w.history w.history id it
              (λ here.
              let same_client : it.client ≡ client = one_of_it (slice_get state.clients place) it.client client (rw (← here) it.found) at_place in
              nothing it.call (sym idle ∙ (ap (λ (c : Client). c.running) (sym same_client) ∙ it.runs))) it.lives);
          faults = keeps.faults;
          failing = keeps.failing;
          living = keeps.living;
          deaths = keeps.deaths;
          left = keeps.left;
          used = keeps.used;
          built = keeps.built;
          quiet = keeps.quiet;
          version = keeps.version;
          cached = keeps.cached;
          homes = homes_on state.clients place client now at_place same.node (length state.shared.caches) keeps.homes;
        }

  pub look_keeps : RunInvariant r s (record state { clients = slice_set state.clients place (behind_look client (found kept w.version)) })
  look_keeps = now_keeps (behind_look client (found kept w.version)) (look_same client (found kept w.version)) (client_behind (found kept w.version) refl)
