-- What holds of the call that a client is at, whether it runs or is to begin; and of a client that is asked for one more.
use Rattle.std.proofs.Common.{◌≡◌, ◌∙◌, inl, inr, ◌<◌, ◌+◌, ◌==◌, ◌&&◌, ℕ, nat_le, nat_lt, Bool, true, false, List, [], All, length, Option, Some, None, IfSome, slice_get, slice_set, unwrap_or, refl, sym, ap, subst, arith}
use Rattle.std.specs.List.{list_any}
use Rattle.std.proofs.lemmas.Bool.{eqb-true, and_parts, and_right}
use Rattle.std.proofs.lemmas.Bool.Decides.{nat_tests}
use Rattle.std.proofs.lemmas.List.Elements.{All-weaker}
use Rattle.std.proofs.lemmas.List.Folds.{list_any_none}
use Rattle.std.proofs.lemmas.Option.{IfSome_then}
use Rattle.store_traits.specs.declared.ids.CallId.{CallId}
use Rattle.hist_journal.specs.Kinds.{is_call, is_raise}
use Rattle.hist_journal.specs.Nodes.{is_dead}
use Rattle.hist_journal.specs.Quiet.{pending}
use Rattle.prefs_text.specs.EntryText.{PrefEntry, PrefKind}
use Rattle.shelf.specs.declared.store.Store.{Store}
use Rattle.shelf.specs.CallOrder.{is_later}
use Rattle.shelf.specs.Each.{Each}
use Rattle.shelf.specs.Entries.{is_any, is_own}
use Rattle.shelf.specs.Places.{is_up_to}
use Rattle.shelf.proofs.Bools.{never}
use Rattle.shelf.proofs.LastRaises.{ends_in_raise-none}
use Rattle.shelf.proofs.PendingMeanwhile.{pending_own}
use Rattle.step_table.specs.Calls.{At, First, Read, Restarting, Update, is_gone}
use Rattle.node_core.specs.Knows.{KnowsContents}
use Rattle.node_core.specs.Own.{IsEarly, OwnEntries, is_late}
use Rattle.node_core.specs.Phases.{is_holding, is_raised}
use Rattle.node_core.specs.Plans.{PlanAt}
use Rattle.script_lang.specs.declared.plan.run_line.Act.{Act}
use Rattle.script_lang.specs.declared.plan.run_line.Act.TheVariants as act
use Rattle.replay_run.specs.ClientInvariant.{CallInvariant, ClientInvariant, IsForAct, gone_through, is_behind}
use Rattle.replay_run.specs.Lines.{Asks, with_act}
use Rattle.replay_run.specs.RunInvariant.{IsOfCall, RunInvariant, begun}
use Rattle.replay_run.specs.RunState.{Client, RunState, act_now, call_at, call_now, new_call}
use Rattle.replay_run.specs.Settings.{Change, PrefCall, PrefRules, PrefWorld, Value}
use Rattle.replay_run.proofs.keeping.AnswerLemmas.{answers_same}
use Rattle.replay_run.proofs.keeping.PlansAside.{plans_none}
use Rattle.replay_run.proofs.keeping.ReplacedClient.{entries_on, homes_on, owner_stays}
use Rattle.replay_run.proofs.keeping.SilentClients.{new_silent}
use Rattle.replay_run.proofs.keeping.StepCases.{IsCalled}
use Rattle.replay_run.proofs.lists.JoinedLemmas.{found_in_front}
use Rattle.replay_run.proofs.lists.OptionLemmas.{one_of_it}
use Rattle.replay_run.proofs.lists.SetLemmas.{found_then}

number_apart : (earlier place next : ℕ) (others : Bool) → place < next → (others && (earlier + next + 1 == earlier + place + 1)) ≡ false
number_apart earlier place next others before = grind (arith, nat_tests, before)

not_later : (earlier place next : ℕ) → place < next → nat_lt (earlier + next + 1) (earlier + place + 1) ≡ false
not_later earlier place next before = grind (arith, nat_tests, before)

pub middle_none : (x y z : Bool) → y ≡ false → ((x && y) && z) ≡ false
middle_none x y z none = rw (and_right x y none) refl

module _ (clients : List Client) (place : ℕ) (client : Client) (found : slice_get clients place ≡ Some client) (stands : client.id.0 ≡ place) (idle : client.running ≡ None) where
  abbrev next : CallId
  next = call_at client (length client.answered)

  -- no entry is of the next call of the client, or of a later one
  none_of_next : (e : PrefEntry) → IsOfCall clients e → (is_call next e.who ≡ false) × (is_later next e ≡ false)
  none_of_next e of = by_client (client.id.0 == e.who.client.0) refl
    where
      by_client : (b : Bool) → (client.id.0 == e.who.client.0) ≡ b → (is_call next e.who ≡ false) × (is_later next e ≡ false)
      by_client true is =
          let here : e.who.client.0 ≡ place = sym (eqb-true client.id.0 e.who.client.0 is) ∙ stands in
          let same : of.client ≡ client = one_of_it (slice_get clients place) of.client client (rw (← here) of.found) found in
          let began : of.place < begun client = rw same at of.begun in
          let before : of.place < length client.answered = let less : of.place < length client.answered + 0 = rw idle at began in omega (arith, less) in
          let who : e.who ≡ call_at client of.place = of.who ∙ rw same refl in
          rw who (number_apart client.earlier of.place (length client.answered) _ before, and_right _ _ (not_later client.earlier of.place (length client.answered) before))
      by_client false is = (middle_none (client.node.0 == e.who.node.0) (client.id.0 == e.who.client.0) (next.number == e.who.number) is, rw is refl)

  pub none_own : (is_kind : PrefKind → Bool) (list : List PrefEntry) → All (IsOfCall clients) list → list_any (is_own is_kind next) list ≡ false
  none_own is_kind list all =
      list_any_none (is_own is_kind next) list
      (All-weaker (IsOfCall clients) (λ e. is_own is_kind next e ≡ false) (λ e of. rw (none_of_next e of).0 refl) list all)

  none_later : (list : List PrefEntry) → All (IsOfCall clients) list → list_any (is_later next) list ≡ false
  none_later list all = list_any_none (is_later next) list (All-weaker (IsOfCall clients) (λ e. is_later next e ≡ false) (λ e of. (none_of_next e of).1) list all)

  not_pending : (list : List PrefEntry) → All (IsOfCall clients) list → pending list ≡ Some next → ⊥
  not_pending list all is = never (sym (none_own is_raise list all) ∙ pending_own next list is)

  -- entries of the client are of its node
  at_home : (list : List PrefEntry) → All (IsOfCall clients) list → All (λ e. is_up_to next e ≡ true → e.who.node ≡ client.node) list
  at_home list all =
      All-weaker (IsOfCall clients) (λ e. is_up_to next e ≡ true → e.who.node ≡ client.node)
      (λ e of up_to.
      let here : e.who.client.0 ≡ place = sym (eqb-true client.id.0 e.who.client.0 (and_parts (client.id.0 == e.who.client.0) (nat_le e.who.number next.number) up_to).0) ∙ stands in
      let same : of.client ≡ client = one_of_it (slice_get clients place) of.client client (rw (← here) of.found) found in
      ap (λ (call : CallId). call.node) of.who ∙ ap (λ (client : Client). client.node) same) list all

  module _ (r : PrefRules) {M : Type 0} (s : Store Value M) (asked : Act) (at_it : act_now client ≡ Some asked) (w : PrefWorld) (all : All (IsOfCall clients) w.history) (living : Each (λ before e. is_dead e.who.node before ≡ false) w.history) where
    early : IsEarly next w.history
    early = none_own is_late w.history all

    -- what is kept of a call at this step, which knows nothing yet
    kept_at : (at : At Value Change) → IsForAct next asked at w.history → is_gone at ≡ false → OwnEntries next at w.history → PlanAt at → is_raised at ≡ false → is_holding at ≡ false → KnowsContents r s at w.folder w.history → gone_through at ≡ []
        → CallInvariant r s client w (record { id = next; at = at; since = None })
    kept_at at is_for goes_on entries plan unraised free contents none =
        record {
          asked = asked;
          at_it = at_it;
          id = refl;
          is_for = is_for;
          goes_on = goes_on;
          entries = entries;
          knows =
              λ alive.
              record {
                began = tt;
                numbers = none_later w.history all;
                entries = entries;
                plan = plan;
                last = unraised ∙ sym (ends_in_raise-none next w.history (none_own is_any w.history all));
                raised = (λ is. never (sym unraised ∙ is), λ is. absurd (not_pending w.history all is));
                holds = λ is. never (sym free ∙ is);
                contents = λ told. contents;
              };
          silent = new_silent next w.history living (at_home w.history all);
          spared = plans_none next s.deaths (is_behind at) (λ step. rw none refl);
        }

    new_by : (a : Act) → asked ≡ a → IsCalled a → CallInvariant r s client w (new_call client a)
    new_by (act.Update edit) is called = kept_at (First (Update edit)) (rw is refl) refl early tt refl refl tt refl
    new_by act.Read is called = kept_at (First Read) (rw is refl) refl early tt refl refl tt refl
    new_by (act.Restart node) is called = kept_at (Restarting node) (rw is refl) refl early tt refl refl tt refl
    new_by other is called = absurd called

    -- a call that is to begin knows all that it needs to, and is silent where its node is dead
    pub new_kept : IsCalled asked → CallInvariant r s client w (new_call client asked)
    new_kept called = new_by asked refl called

-- it is kept where the client is another, and is at the same call
pub call_same : (r : PrefRules) {M : Type 0} (s : Store Value M) (client now : Client) (w : PrefWorld) (call : PrefCall) → call_at now (length now.answered) ≡ call_at client (length client.answered)
    → ((asked : Act) → act_now client ≡ Some asked → act_now now ≡ Some asked) → CallInvariant r s client w call → CallInvariant r s now w call
call_same r s client now w call same at_it it =
    record {
      asked = it.asked;
      at_it = at_it it.asked it.at_it;
      id = it.id ∙ sym same;
      is_for = it.is_for;
      goes_on = it.goes_on;
      entries = it.entries;
      knows = it.knows;
      silent = it.silent;
      spared = it.spared;
    }

module _ (r : PrefRules) {M : Type 0} (s : Store Value M) (state : RunState) (place : ℕ) (client : Client) (found : slice_get state.clients place ≡ Some client) (keeps : RunInvariant r s state) where
  mine : ClientInvariant r s place state.shared.world client
  mine = keeps.clients place client found

  -- the call that the client is at keeps what is to be kept of it
  pub call_kept : (asked : Act) → IsCalled asked → act_now client ≡ Some asked → CallInvariant r s client state.shared.world (call_now client asked)
  call_kept asked called at_it = by_running client.running refl mine.running
    where
      by_running : (running : Option PrefCall) → client.running ≡ running → IfSome running (CallInvariant r s client state.shared.world)
          → CallInvariant r s client state.shared.world (unwrap_or running (new_call client asked))
      by_running (Some call) is it = it
      by_running None idle it = new_kept state.clients place client found mine.id idle r s asked at_it state.shared.world keeps.entries keeps.living called

  module _ (asked : Act) where
    abbrev now : Client
    now = with_act asked client

    more_asked : (nth : ℕ) (a : Act) → slice_get client.asked nth ≡ Some a → slice_get now.asked nth ≡ Some a
    more_asked nth a is = found_in_front client.asked asked [] nth a is

    now_keeps : ClientInvariant r s place state.shared.world now
    now_keeps =
        record {
          id = mine.id;
          running =
              IfSome_then client.running mine.running (λ call. call_same r s client now state.shared.world call refl (more_asked (length client.answered)));
          answers = answers_same r s client now state.shared.world.history client.answered refl refl refl more_asked mine.answers;
        }

    asked_keeps : RunInvariant r s (record state { clients = slice_set state.clients place now })
    asked_keeps =
        record {
          clients =
              λ other c is.
              elim (found_then state.clients place other now c is) [
                | inl here ↦ (rw (here.0, here.1) now_keeps)
                | inr there ↦ keeps.clients other c there.1
              ];
          entries = entries_on state.clients place client now found (λ nth. refl) omega arith state.shared.world.history keeps.entries;
          owner = IfSome_then state.shared.world.owner keeps.owner (owner_stays state.clients place client now found refl state.shared.world.history);
          faults = keeps.faults;
          failing = keeps.failing;
          living = keeps.living;
          deaths = keeps.deaths;
          left = keeps.left;
          used = keeps.used;
          built = keeps.built;
          quiet = keeps.quiet;
          version = keeps.version;
          cached = keeps.cached;
          homes = homes_on state.clients place client now found refl (length state.shared.caches) keeps.homes;
        }

-- the client at a place is asked for one more call
pub asks_keep : (r : PrefRules) {M : Type 0} (s : Store Value M) (place : ℕ) (asked : Act) (old new : RunState) → Asks place asked old new → RunInvariant r s old → RunInvariant r s new
asks_keep r s place asked old new it keeps = subst (λ state. RunInvariant r s state) (sym it.now) (asked_keeps r s old place it.client it.was keeps asked)
