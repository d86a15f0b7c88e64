-- A client that has an update, a read or a restart to do has a step.
use Rattle.std.proofs.Common.{◌≡◌, ◌<◌, ◌≤◌, ◌-◌, ◌^◌, ℕ, true, [], Option, Some, None, IfSome, slice_get, slice_set, refl, sym, subst}
use Rattle.store_traits.specs.declared.update_error.UpdateError.{UpdateError}
use Rattle.store_traits.specs.declared.update_error.UpdateError.TheVariants as error
use Rattle.prefs_text.specs.declared.seen.AnswerSeen.{AnswerSeen}
use Rattle.prefs_text.specs.declared.seen.AnswerSeen.TheVariants as seen
use Rattle.shelf.specs.declared.store.Store.{Store}
use Rattle.shelf.proofs.Bools.{never}
use Rattle.step_table.specs.Caching.{found as found_in, published_by}
use Rattle.step_table.specs.Calls.{Failed, Gave, NotDead, Restarted, Updated}
use Rattle.step_table.specs.Effects.{Ceases, Effect, Ends, Goes, Next, SparesFolder, Waits, call_by, gave_by}
use Rattle.step_table.proofs.ChosenRows.{is_served}
use Rattle.step_table.proofs.EffectsMade.{begun, now_by}
use Rattle.script_lang.specs.declared.plan.run_line.Act.{Act}
use Rattle.script_lang.specs.declared.plan.run_line.Act.TheVariants as act
use Rattle.replay_run.specs.Answering.{behind_look, behind_turn, client_answered, error_told}
use Rattle.replay_run.specs.RunState.{Client, NodeView, RunState, act_now, call_now}
use Rattle.replay_run.specs.Settings.{Change, PrefCached, PrefCall, PrefRules, PrefWorld, Value}
use Rattle.replay_run.specs.Steps.{ClientSteps, ReadSteps, StepsAt, StepsBy, TakesTurn, brought_back, emptied, kept_behind}
use Rattle.replay_run.proofs.exists.ServedSteps.{RunsServed, call_served}
use Rattle.replay_run.proofs.exists.TurnExists.{MustBe, is_answer, turn_is}
use Rattle.replay_run.proofs.keeping.StepCases.{IsCalled}

-- an error that is told leaves a client
told_error : (err : UpdateError) → is_answer {V = Value} {T = Change} (Ends (Failed err)) ≡ true → (answer : AnswerSeen) × (error_told err ≡ Some answer)
told_error (error.Refused code edition) is = (seen.Refused code edition, refl)
told_error error.Corrupt is = (seen.Corrupt, refl)
told_error (error.FileTooLong len) is = (seen.FileTooLong len, refl)
told_error (error.ValueTooLong len) is = (seen.ValueTooLong len, refl)
told_error (error.HistoryFull entries weight) is = (seen.HistoryFull entries weight, refl)
told_error (error.StorageFault place) is = (seen.StorageFault place, refl)
told_error (error.NotDurable place) is = (seen.NotDurable place, refl)
told_error (error.LegacyFault place) is = (seen.LegacyFault place, refl)
told_error (error.Died place) is = (seen.Died place, refl)
told_error error.NoMemory is = never is

behind : (client : Client) (call : PrefCall) (next : Next Value Change) → is_answer next ≡ true → (after : Client) × (behind_turn client call (gave_by next) ≡ Some after)
behind client call Waits is = (record client { running = Some call }, refl)
behind client call (Goes lock at) is = (record client { running = Some call }, refl)
behind client call (Ends (Updated edition)) is = (client_answered client call.id (seen.Updated edition), refl)
behind client call (Ends (Gave edition value)) is = (client_answered client call.id (seen.Read edition value), refl)
behind client call (Ends (Restarted place)) is = (client_answered client call.id (seen.Restarted place), refl)
behind client call (Ends NotDead) is = (client_answered client call.id seen.NotDead, refl)
behind client call (Ceases place) is = (client_answered client call.id (seen.Died place), refl)
behind client call (Ends (Failed err)) is = let told = told_error err is in (client_answered client call.id told.0, rw told.1 refl)

module _ (r : PrefRules) {M : Type 0} (s : Store Value M) (none : s.migrations ≡ []) (unreplaced : s.handler ≡ None) (low : s.limits.file < 2 ^ 64 - 1) (state : RunState) where
  abbrev w : PrefWorld
  w = state.shared.world

  module _ (few : w.tally.count ≤ 2 ^ 64 - 1) (place : ℕ) (client : Client) (found : slice_get state.clients place ≡ Some client) (kept : Option PrefCached) (cache : slice_get state.shared.caches client.node.0 ≡ Some kept) where
    abbrev view : NodeView
    view = record { world = w; kept = kept }

    -- what a step leaves is a state
    stepped : (after : Client) (view_after : NodeView) → ClientSteps r s client view after view_after → MustBe (StepsAt r s place state)
    stepped after view_after steps nothing =
        nothing
        (record {
          shared = record { world = view_after.world; caches = emptied (brought_back client after) (slice_set state.shared.caches client.node.0 view_after.kept) };
          clients = slice_set state.clients place after;
        })
        (record { client = client; client_after = after; kept = kept; kept_after = view_after.kept; was = found; cache = cache; steps = steps; caches = refl; now = refl })

    turned : (call : PrefCall) → is_served call.at ≡ true → ((after : Client) (view_after : NodeView) → TakesTurn r s call client view after view_after → ClientSteps r s client view after view_after) → MustBe (StepsAt r s place state)
    turned call served is nothing =
        turn_is r s w none unreplaced low call served few
        (λ e turns.
        let next = behind client (call_by e (begun w call)) e.next turns.answers in
        let now : PrefWorld = now_by w (begun w call) e in
        let view_after : NodeView = record { world = now; kept = kept_behind kept (published_by call.at (gave_by e.next) now) } in
        let turn : TakesTurn r s call client view next.0 view_after =
        record {
          call_after = call_by e (begun w call);
          gave = gave_by e.next;
          turn = turns.turn;
          spares = subst (λ (x : Effect Value Change). SparesFolder x.folder w now) (sym turns.same) turns.spares;
          now = next.1;
          kept = refl;
        } in
        stepped next.0 view_after (is next.0 view_after turn) nothing)

    read : (running : Option PrefCall) → client.running ≡ running → RunsServed client → act_now client ≡ Some act.Read → MustBe (StepsAt r s place state)
    read None idle served is =
        let after : Client = behind_look client (found_in kept w.version) in
        stepped after view (subst (λ o. StepsBy r s o client view after view) (sym is) (subst (λ running. ReadSteps r s running client view after view) (sym idle) (record { now = refl; same = refl })))
    read (Some call) runs served is =
        turned call (let it : IfSome (Some call) (λ (call : PrefCall). is_served call.at ≡ true) = rw runs at served in it)
        (λ after view_after turn. subst (λ o. StepsBy r s o client view after view_after) (sym is) (subst (λ running. ReadSteps r s running client view after view_after) (sym runs) turn))

    -- a call that begins by its first turn
    one_turn : (asked : Act) → IsCalled asked → RunsServed client → ((after : Client) (view_after : NodeView) → TakesTurn r s (call_now client asked) client view after view_after → ClientSteps r s client view after view_after) → MustBe (StepsAt r s place state)
    one_turn asked has served is = turned (call_now client asked) (call_served client asked has client.running refl served) is

    -- whatever the client is at, it has a step
    pub client_steps : (asked : Option Act) → act_now client ≡ asked → IfSome asked IsCalled → RunsServed client → MustBe (StepsAt r s place state)
    client_steps (Some (act.Update edit)) is has served = one_turn (act.Update edit) has served (λ after view_after turn. subst (λ o. StepsBy r s o client view after view_after) (sym is) turn)
    client_steps (Some (act.Restart node)) is has served = one_turn (act.Restart node) has served (λ after view_after turn. subst (λ o. StepsBy r s o client view after view_after) (sym is) turn)
    client_steps (Some act.Read) is has served = read client.running refl served is
    client_steps (Some other) is has served = absurd has
    client_steps None is has served = stepped client view (subst (λ o. StepsBy r s o client view client view) (sym is) (refl, refl))
