-- What a run keeps: at the start, with each step of a client, and when nobody has anything to do.
use Rattle.std.proofs.Common.{◌≡◌, ◌∙◌, inl, ◌+◌, ◌<◌, All, get_or, ℕ, suc, zero, false, List, [], ◌∷◌, length, map, Option, Some, None, IfSome, is_some, slice_get, slice_set, refl, sym, ap, subst, arith}
use Rattle.std.specs.List.{enumerate_from}
use Rattle.std.proofs.lemmas.List.{length-map}
use Rattle.std.proofs.lemmas.List.Elements.{All-contains_itself, All-map, All-nil}
use Rattle.std.proofs.lemmas.List.FromFn.{length-enumerate_from}
use Rattle.std.proofs.lemmas.Option.{slice_get-get_or}
use Rattle.store_traits.specs.declared.ids.NodeId.{NodeId}
use Rattle.folder_disk.specs.Tally.{Tally}
use Rattle.hist_journal.specs.Folds.{raises_of}
use Rattle.hist_journal.specs.Quiet.{pending}
use Rattle.shelf.specs.declared.store.Store.{Store}
use Rattle.shelf.proofs.Bools.{never}
use Rattle.shelf.proofs.LegalLemmas.{nothing_stands_in_none}
use Rattle.step_table.specs.World.{Begins}
use Rattle.value_cache.specs.Truth.{IsOfPrefix}
use Rattle.script_lang.specs.Asked.{Asked}
use Rattle.script_lang.specs.Chronicle.{nodes_of}
use Rattle.script_lang.specs.declared.plan.script.Script.{Script}
use Rattle.script_lang.specs.declared.plan.run_line.Act.{Act}
use Rattle.script_lang.specs.declared.plan.run_line.Act.TheVariants as act
use Rattle.replay_run.specs.ClientInvariant.{CallInvariant, ClientInvariant}
use Rattle.replay_run.specs.Failing.{FailsWithin}
use Rattle.replay_run.specs.Rounds.{IsOver}
use Rattle.replay_run.specs.RunInvariant.{IsOfCall, ReadsWell, RunInvariant}
use Rattle.replay_run.specs.RunState.{Client, NodeView, RunState, act_now, call_now, is_busy}
use Rattle.replay_run.specs.Settings.{PrefCached, PrefCall, PrefRules, PrefWorld, Value}
use Rattle.replay_run.specs.Start.{new_client, new_clients, start_of, world_of}
use Rattle.replay_run.specs.Steps.{StepsAt, TakesTurn, brought_back, emptied}
use Rattle.replay_run.proofs.keeping.AnswerLemmas.{answered_within}
use Rattle.replay_run.proofs.keeping.ClientTurns.{ClientTurn}
use Rattle.replay_run.proofs.keeping.LookKeeps.{look_keeps}
use Rattle.replay_run.proofs.keeping.StepCases.{IsCalled, StepCase, looks, rests, step_case, turns}
use Rattle.replay_run.proofs.keeping.TurnKeeps.{turn_keeps}
use Rattle.replay_run.proofs.lists.OptionLemmas.{none_at, none_past, nothing, one_of}
use Rattle.replay_run.proofs.lists.SetLemmas.{set_same}
use Rattle.replay_run.proofs.lists.SetViews.{all_found}

-- a client at the start stands at its place, and is a new one of the node there
pub record IsNew (before : List Asked) (homes : List NodeId) (index place : ℕ) (client : Client) : Type 0 where
  pub node : NodeId
  pub home : slice_get homes index ≡ Some node
  pub is : client ≡ new_client before place node

pub new_from : (before : List Asked) (first : ℕ) (homes : List NodeId) (place : ℕ) (client : Client) → slice_get (map (λ placed. new_client before placed.0 placed.1) (enumerate_from first homes)) place ≡ Some client → IsNew before homes place (first + place) client
new_from before first [] place client is = nothing client is
new_from before first (home ∷ homes) zero client is =
    let same : first + 0 ≡ first = omega arith in
    record { node = home; home = refl; is = sym (one_of (new_client before first home) client is) ∙ ap (λ n. new_client before n home) (sym same) }
new_from before first (home ∷ homes) (suc place) client is =
    let rest = new_from before (first + 1) homes place client is in
    let same : first + 1 + place ≡ first + suc place = omega arith in
    record { node = rest.node; home = rest.home; is = rest.is ∙ ap (λ n. new_client before n rest.node) same }

-- a run starts as sessions of the store begin
pub starts_begin : {M : Type 0} (s : Store Value M) (tally : Tally) → tally.count ≡ s.folder.count → Begins s (world_of tally s)
starts_begin s tally counted =
    record { main = λ told. refl; sections = refl; alone = λ told alone. refl; owner = refl; history = refl; deaths = refl; version = refl; count = counted }

-- the home of each client is one of the script's nodes
pub homes_declared : (script : Script) → All (λ home. home.0 < length script.names.nodes) script.homes → All (λ home. home.0 < length (nodes_of script)) script.homes
homes_declared script declared = rw (length-map, length-enumerate_from) declared

abbrev pub IsNoRestart : Option Act → Type 0
IsNoRestart (Some (act.Restart node)) = ⊥
IsNoRestart other = Unit {0}

-- whoever is not at a restart brings no node back
pub none_back : (client now : Client) (asked : Option Act) → act_now client ≡ asked → IsNoRestart asked → brought_back client now ≡ None
none_back client now None is none = rw is refl
none_back client now (Some (act.Restart node)) is none = absurd none
none_back client now (Some other) is none = rw is refl

module _ (r : PrefRules) {M : Type 0} (s : Store Value M) where
  pub start_keeps : (before : List Asked) (tally : Tally) (homes : List NodeId) → tally.count ≡ s.folder.count → FailsWithin s tally → All (λ home. home.0 < length s.nodes) homes → RunInvariant r s (start_of before tally s homes)
  unfolding pending raises_of
  start_keeps before tally homes counted failing declared =
      record {
        clients = λ place client found. keeps_new place client (new_from before 0 homes place client found);
        entries = All-nil (IsOfCall (new_clients before homes));
        owner = tt;
        faults = let fits = failing.count in omega (arith, counted, fits);
        failing = failing;
        living = λ front e behind is. absurd (nothing_stands_in_none front behind e is);
        deaths = λ front e behind is. absurd (nothing_stands_in_none front behind e is);
        left = All-contains_itself s.deaths;
        used = λ death planned. inl planned;
        built = refl;
        quiet = λ call is. nothing call is;
        version = refl;
        cached = All-map (λ kept. IfSome kept (IsOfPrefix r.meanings.after s.base [])) (λ node. None) s.nodes (λ place node within. tt);
        homes =
            λ place client within.
            let it = new_from before 0 homes place (get_or (new_clients before homes) place client) (slice_get-get_or (new_clients before homes) place client within) in
            rw (it.is, length-map) (all_found (λ home. home.0 < length s.nodes) homes place it.node it.home declared);
      }
    where
      keeps_new : (place : ℕ) (client : Client) → IsNew before homes place (0 + place) client → ClientInvariant r s place (world_of tally s) client
      keeps_new place client it =
          rw it.is
          (record {
            id = omega arith;
            running = tt;
            answers = λ front line behind is. absurd (nothing_stands_in_none front behind line is);
          })

  module _ (place : ℕ) (old new : RunState) (it : StepsAt r s place old new) (well : ReadsWell r s old.shared.world) (keeps : RunInvariant r s old) where
    abbrev w_after : PrefWorld
    w_after = new.shared.world

    abbrev view : NodeView
    view = record { world = old.shared.world; kept = it.kept }

    abbrev view_after : NodeView
    view_after = record { world = w_after; kept = it.kept_after }

    abbrev caches_after : Client → Option PrefCached → List (Option PrefCached)
    caches_after client kept = emptied (brought_back it.client client) (slice_set old.shared.caches it.client.node.0 kept)

    abbrev Now : PrefWorld → List (Option PrefCached) → Client → Type 0
    Now w caches client = RunInvariant r s (record { shared = record { world = w; caches = caches }; clients = slice_set old.clients place client })

    -- no node was brought back, and the world and the caches are as they were
    same_view : (client : Client) → brought_back it.client client ≡ None → view_after ≡ view → Now old.shared.world old.shared.caches client → Now w_after (caches_after client it.kept_after) client
    same_view client none same kept =
        rw (none, ap (λ (v : NodeView). v.world) same, ap (λ (v : NodeView). v.kept) same, set_same old.shared.caches it.client.node.0 it.kept it.cache) kept

    -- the turn that it takes, if it takes one
    abbrev pub taken : (asked : Act) → IsCalled asked → act_now it.client ≡ Some asked → TakesTurn r s (call_now it.client asked) it.client view it.client_after view_after → ClientTurn r s old
    taken asked called at_it turn =
        record {
          place = place;
          client = it.client;
          now = it.client_after;
          cached = it.kept;
          cached_after = it.kept_after;
          w_after = w_after;
          asked = asked;
          called = called;
          found = it.was;
          cache = it.cache;
          at_it = at_it;
          takes = turn;
          keeps = keeps;
          well = well;
        }

    by_case : StepCase r s it.client view it.client_after view_after → Now w_after (caches_after it.client_after it.kept_after) it.client_after
    by_case (rests none client same) = same_view it.client_after (none_back it.client it.client_after None none tt) same (rw (client, set_same old.clients place it.client it.was) keeps)
    by_case (turns asked called at_it turn) = turn_keeps (taken asked called at_it turn)
    by_case (looks at_it idle look) =
        same_view it.client_after (none_back it.client it.client_after (Some act.Read) at_it tt) look.same (rw look.now (look_keeps r s old place it.client it.kept it.was it.cache at_it idle keeps well))

    -- the state keeps this from step to step
    pub steps_keep : RunInvariant r s new
    steps_keep =
        subst (λ (state : RunState). RunInvariant r s state) (ap (λ caches. record { shared = record { world = w_after; caches = caches }; clients = slice_set old.clients place it.client_after }) (sym it.caches) ∙ ap (λ clients. record { shared = new.shared; clients = clients }) (sym it.now))
        (by_case (step_case r s it.client view it.client_after view_after it.steps))

  -- where nobody has anything to do, each client has an answer for each of its calls
  pub all_answered : (state : RunState) → RunInvariant r s state → IsOver state → (place : ℕ) (client : Client) → slice_get state.clients place ≡ Some client → (client.running ≡ None) × (length client.answered ≡ length client.asked)
  all_answered state keeps over place client found = by_act (act_now client) refl (none_at is_busy state.clients place client over found)
    where
      kept : ClientInvariant r s place state.shared.world client
      kept = keeps.clients place client found

      by_running : (running : Option PrefCall) → IfSome running (CallInvariant r s client state.shared.world) → act_now client ≡ None → running ≡ None
      by_running None it none = refl
      by_running (Some call) it none = nothing it.asked (sym none ∙ it.at_it)

      by_act : (asked : Option Act) → act_now client ≡ asked → is_some asked ≡ false → (client.running ≡ None) × (length client.answered ≡ length client.asked)
      by_act None none idle =
          let last = none_past client.asked (length client.answered) none in
          let most = answered_within r s client state.shared.world.history client.answered kept.answers in
          (by_running client.running kept.running none, omega (arith, last, most))
      by_act (Some asked) is idle = never (sym idle)
