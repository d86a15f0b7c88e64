-- Each step of a client that does not wait leaves less to do.
use Rattle.std.proofs.Common.{◌≡◌, ◌∙◌, ◌⊎◌, inl, inr, ◌≤◌, ◌<◌, ◌+◌, ◌-◌, ◌*◌, ◌||◌, ℕ, suc, Bool, true, false, List, Option, Some, None, length, unwrap_or, refl, sym, ap, subst, arith}
use Rattle.std.proofs.Math.Nat.{mul-le-mul_right}
use Rattle.std.proofs.lemmas.List.{length-set}
use Rattle.store_traits.specs.declared.ids.CallId.{CallId}
use Rattle.hist_journal.specs.Kinds.{is_change}
use Rattle.hist_journal.specs.Nodes.{is_ready}
use Rattle.prefs_text.specs.EntryText.{PrefEntry}
use Rattle.prefs_text.specs.declared.seen.AnswerSeen.TheVariants as seen
use Rattle.script_lang.specs.declared.plan.run_line.Act.{Act}
use Rattle.script_lang.specs.declared.plan.run_line.Act.TheVariants as act
use Rattle.shelf.specs.declared.store.Store.{Store}
use Rattle.shelf.proofs.Bools.{never}
use Rattle.step_table.specs.Caching.{found}
use Rattle.step_table.specs.Calls.{Ask, At, First, Plan, Read, Reply, Update, Writing, is_gone, is_locking}
use Rattle.step_table.specs.Laws.{WritesAChange}
use Rattle.step_table.specs.Turn.{Turn}
use Rattle.step_table.specs.World.{Turned}
use Rattle.step_table.specs.declared.progress.Progress.{Progress}
use Rattle.step_table.specs.declared.progress.Progress.TheVariants.{Moved, Blocked}
use Rattle.step_table.proofs.Waiting.{turn_waits}
use Rattle.node_core.specs.Knows.{Knows}
use Rattle.node_core.specs.Own.{IsFor, WritesFor}
use Rattle.node_core.specs.Phases.{is_finishing, is_holding}
use Rattle.node_core.specs.StepsLeft.{steps_left}
use Rattle.node_core.proofs.KeepingLemmas.{turn_stays}
use Rattle.node_core.proofs.MovingLemmas.{has_left, moved_lives, moved_runs}
use Rattle.node_core.proofs.ReadinessLemmas.{turn_finds}
use Rattle.node_core.proofs.StepsLemmas.{turn_steps}
use Rattle.replay_run.specs.Answering.{behind_look}
use Rattle.replay_run.specs.ClientInvariant.{CallInvariant, IsForAct}
use Rattle.replay_run.specs.RunInvariant.{RunInvariant}
use Rattle.replay_run.specs.RunState.{Client, NodeView, RunState, act_now, call_now, is_busy, new_call}
use Rattle.replay_run.specs.Settings.{Change, PrefCached, PrefCall, PrefRules, PrefWorld, Value}
use Rattle.replay_run.specs.Steps.{Looks, StepsAt}
use Rattle.replay_run.specs.WorkLeft.{Waits, client_left, turns_left, work_left}
use Rattle.replay_run.proofs.keeping.BehindTurns.{Behind, behind, blocked, client_on, ended, moved}
use Rattle.replay_run.proofs.keeping.CallKept.{call_kept}
use Rattle.replay_run.proofs.keeping.StepCases.{IsCalled, StepCase, looks, rests, step_case, turns}
use Rattle.replay_run.proofs.lists.OptionLemmas.{one_of}
use Rattle.replay_run.proofs.work.DeathsLeft.{LastsOrDies, alive_since, lasts_same, turn_lasts}
use Rattle.replay_run.proofs.work.TurnsLeft.{answered_left, client_least, client_most, left_least, now_left, running_left, sum_with}

locking_holds_none : (ready : Bool) (at : At Value Change) → is_locking ready at ≡ true → is_holding at ≡ false
locking_holds_none ready (First ask) locks = refl
locking_holds_none ready other locks = never locks

some_owner : (owner : Option CallId) → (owner ≡ None → ⊥) → (other : CallId) × (owner ≡ Some other)
some_owner None owned = absurd (owned refl)
some_owner (Some owner) owned = (owner, refl)

-- what a call writes that is at work for its line is a value change
asked_writes : (ask : Ask Change) (plan : Plan Value Change) → WritesFor ask plan → is_change plan.change ≡ true
asked_writes (Update edit) plan is = rw is refl
asked_writes Read plan is = absurd is

ask_writes : (id : CallId) (ask : Ask Change) (at : At Value Change) (list : List PrefEntry) → IsFor id ask at list → WritesAChange at
ask_writes id ask (Writing stage plan) list is = asked_writes ask plan is
ask_writes id ask other list is = tt

act_writes : (id : CallId) (asked : Act) (at : At Value Change) (list : List PrefEntry) → IsForAct id asked at list → WritesAChange at
act_writes id (act.Update edit) at list is = ask_writes id (Update edit) at list is
act_writes id act.Read at list is = ask_writes id Read at list is
act_writes id (act.Restart node) at list is = rw is tt
act_writes id other at list is = absurd is

-- a death that struck took its share of what is left with it
share_gone : (fewer most each : ℕ) → fewer < most → fewer * each + each ≤ most * each
share_gone fewer most each less = let within : suc fewer * each ≤ most * each = mul-le-mul_right each (omega (arith, less)) in omega (arith, within)

-- nothing came of the step: the client has nothing to do, or waits for another
pub record IsIdle (limit : ℕ) (client : Client) (old new : RunState) : Type 0 where
  pub world : new.shared.world ≡ old.shared.world
  pub work : work_left limit new ≤ work_left limit old
  pub why : (is_busy client ≡ false) ⊎ Waits old client

abbrev pub FallsOrIdles : ℕ → Client → RunState → RunState → Type 0
FallsOrIdles limit client old new = (work_left limit new < work_left limit old) ⊎ IsIdle limit client old new

module _ (r : PrefRules) {M : Type 0} (s : Store Value M) (place : ℕ) (old new : RunState) (it : StepsAt r s place old new) (keeps : RunInvariant r s old) where
  abbrev limit : ℕ
  limit = s.limits.file

  abbrev was : PrefWorld
  was = old.shared.world

  abbrev now : PrefWorld
  now = new.shared.world

  -- behind the call that the client is at
  abbrev rest : ℕ
  rest = (length it.client.asked - length it.client.answered - 1) * (limit + 12)

  abbrev IsLess : Client → Type 0
  IsLess client = client_left limit now client < client_left limit was it.client

  many : length new.clients ≡ length old.clients
  many = ap (λ (clients : List Client). length clients) it.now ∙ length-set old.clients place it.client_after

  -- where the client has less left, so have all of them, also where a death gives some of them more
  falls : LastsOrDies was now → IsLess it.client_after → work_left limit new < work_left limit old
  falls (inl lasts) less =
      let sum = sum_with (client_left limit was) (client_left limit now) 0 (client_least limit was now lasts.ready) old.clients place it.client_after it.client it.was in
      rw (lasts.deaths, many, it.now) (omega (arith, sum, less))
  falls (inr fewer) less =
      let sum = sum_with (client_left limit was) (client_left limit now) 4 (client_most limit was now) old.clients place it.client_after it.client it.was in
      let share = share_gone (length now.deaths) (length was.deaths) (4 * length old.clients) fewer in
      rw (many, it.now) (omega (arith, sum, less, share))

  idles : now ≡ was → client_left limit was it.client_after ≤ client_left limit was it.client → ((is_busy it.client ≡ false) ⊎ Waits old it.client) → FallsOrIdles limit it.client old new
  idles world less why =
      let sum = sum_with (client_left limit was) (client_left limit was) 0 (λ c. omega arith) old.clients place it.client_after it.client it.was in
      inr (record { world = world; work = rw (world, many, it.now) (omega (arith, sum, less)); why = why })

  -- a turn of the call that the client is at
  module _ (asked : Act) (called : IsCalled asked) (is : act_now it.client ≡ Some asked) (call_after : PrefCall) where
    abbrev call : PrefCall
    call = call_now it.client asked

    kept : CallInvariant r s it.client was call
    kept = call_kept r s old place it.client it.was keeps asked called is

    its_act : kept.asked ≡ asked
    its_act = one_of kept.asked asked (sym kept.at_it ∙ is)

    is_for : IsForAct call.id asked call.at was.history
    is_for = subst (λ (a : Act). IsForAct call.id a call.at was.history) its_act kept.is_for

    left_is : turns_left limit was it.client call + rest ≤ client_left limit was it.client
    left_is = rw is (omega (arith, now_left limit was it.client asked is_for))

    abbrev taken : Turned Value Change
    taken = record { world = was; call = call; world_after = now; call_after = call_after }

    lasts : (gave : Progress (Reply Value)) → Turn r s taken gave → LastsOrDies was now
    lasts gave turn = turn_lasts r s taken gave turn (act_writes call.id asked call.at was.history is_for)

    -- the call has as many as its next turn leaves it
    on_left : (w : PrefWorld) → is_gone call_after.at ≡ false → client_left limit w (client_on it.client call_after) ≤ steps_left limit (is_ready it.client.node w.history) call_after.at + rest
    on_left w runs = rw is (omega (arith, running_left limit w it.client call_after runs asked))

    moves : Turn r s taken Moved → IsLess (client_on it.client call_after)
    moves turn =
        let ready = is_ready it.client.node was.history in
        let ready_now = is_ready it.client.node now.history in
        let node : call.id.node ≡ it.client.node = ap (λ (id : CallId). id.node) kept.id in
        let knows : Knows r s was call = kept.knows (alive_since call.id.node call.since was.history (moved_lives r s taken turn)) in
        let steps = turn_steps r s ready taken turn knows (λ is first. rw node is) in
        let least = left_least limit call_after.at (ready || is_finishing call.at) ready_now (λ first is. rw (← node) (turn_finds r s taken turn first)) in
        let on = on_left now (moved_runs r s taken turn) in
        omega (arith, steps, least, left_is, on)

    waits : Turn r s taken Blocked → it.client_after ≡ client_on it.client call_after → FallsOrIdles limit it.client old new
    waits turn same =
        let waits = turn_waits r s taken turn in
        let stays : call_after.at ≡ call.at = ap (λ (c : PrefCall). c.at) (turn_stays r s taken turn).1 in
        let owner = some_owner was.owner (λ none. (let another = waits.3 in rw none at another)) in
        let on : client_left limit was (client_on it.client call_after) ≤ turns_left limit was it.client call + rest =
        subst (λ (next : At Value Change). client_left limit was (client_on it.client call_after) ≤ steps_left limit (is_ready it.client.node was.history) next + rest) stays (on_left was (ap is_gone stays ∙ kept.goes_on)) in
        idles waits.4 (rw same (omega (arith, on, left_is)))
        (inr
        (record {
          owner = owner.0;
          owned = owner.1;
          holds_none = λ running runs. ap (λ o. is_holding (unwrap_or o (new_call it.client asked)).at) (sym runs) ∙ locking_holds_none (is_ready call.id.node was.history) call.at waits.2;
        }))

    turned : (gave : Progress (Reply Value)) → Behind it.client call_after gave it.client_after → Turn r s taken gave → FallsOrIdles limit it.client old new
    turned gave so turn = by_gave gave it.client_after refl so turn
      where
        by_gave : (gave : Progress (Reply Value)) (after : Client) → it.client_after ≡ after → Behind it.client call_after gave after → Turn r s taken gave → FallsOrIdles limit it.client old new
        by_gave gave after same moved turn = inl (falls (lasts gave turn) (rw same (moves turn)))
        by_gave gave after same blocked turn = waits turn same
        by_gave gave after same (ended {answer = answer} tells) turn =
            let behind = answered_left limit now it.client call_after.id answer in
            let some = has_left limit (is_ready it.client.node was.history) call.at kept.goes_on in
            inl (falls (lasts gave turn) (rw same (omega (arith, behind, some, left_is))))

  -- a read that has not begun looks: it is answered, or has its turns left
  module _ (asked : act_now it.client ≡ Some act.Read) (idle : it.client.running ≡ None) where
    looked : (seen : Option PrefCached) → it.client_after ≡ behind_look it.client seen → client_left limit was it.client_after < client_left limit was it.client
    looked (Some cached) is =
        let behind = answered_left limit was it.client (new_call it.client act.Read).id (seen.Read cached.edition cached.value) in
        rw (is, asked, idle) (omega (arith, behind))
    looked None is = rw (is, asked, idle) omega arith

    looked_falls : Looks r s it.client (record { world = was; kept = it.kept }) it.client_after (record { world = now; kept = it.kept_after }) → FallsOrIdles limit it.client old new
    looked_falls a =
        let world : now ≡ was = ap (λ (view : NodeView). view.world) a.same in
        inl (falls (inl (lasts_same was now world)) (rw world (looked (found it.kept was.version) a.now)))

  by_case : StepCase r s it.client (record { world = was; kept = it.kept }) it.client_after (record { world = now; kept = it.kept_after }) → FallsOrIdles limit it.client old new
  by_case (rests none same view) = idles (ap (λ (view : NodeView). view.world) view) (rw same omega arith) (inl (rw none refl))
  by_case (turns asked called is a) = turned asked called is a.call_after a.gave (behind it.client a.call_after a.gave it.client_after a.now) a.turn
  by_case (looks asked idle a) = looked_falls asked idle a

  -- each step leaves less to do, or nothing comes of it
  pub steps_fall : FallsOrIdles limit it.client old new
  steps_fall = by_case (step_case r s it.client (record { world = was; kept = it.kept }) it.client_after (record { world = now; kept = it.kept_after }) it.steps)
