-- A call that goes on is at a step that the table serves: no update comes to be served without the lock.
use Rattle.std.proofs.Common.{◌≡◌, Bool, true, false, All, Option, Some, None, IfSome, length, refl, sym, ap}
use Rattle.store_traits.specs.declared.ids.CallId.{CallId}
use Rattle.shelf.specs.declared.store.Store.{Store}
use Rattle.shelf.specs.Rules.{Rules}
use Rattle.shelf.proofs.Bools.{never}
use Rattle.script_lang.specs.declared.plan.run_line.Act.{Act}
use Rattle.script_lang.specs.declared.plan.run_line.Act.TheVariants as act
use Rattle.step_table.specs.Calls.{Ask, At, Call, Read, Reading, Reply, ServeUnlocked, Update, is_gone}
use Rattle.step_table.specs.Effects.{Effect, at_by, gave_by}
use Rattle.step_table.specs.Rows.{Row, must_lock, waits, takes_first, takes, goes_without, loads, migrates, finishes, keeps, changes, raises, creates, appends, syncs_scratch, renames}
use Rattle.step_table.specs.Turn.{AllowedBy, Turn, dies_now, has_died_by}
use Rattle.step_table.specs.World.{Turned, World, begin}
use Rattle.step_table.specs.declared.progress.Progress.{Progress}
use Rattle.step_table.specs.declared.progress.Progress.TheVariants.{Ended}
use Rattle.step_table.proofs.ChosenRows.{is_served}
use Rattle.replay_run.specs.Answering.{behind_look}
use Rattle.replay_run.specs.RunState.{Client, NodeView, act_now, call_now, first_at}
use Rattle.replay_run.specs.Settings.{PrefCached, PrefCall, PrefRules, Value}
use Rattle.replay_run.specs.Steps.{ClientSteps}
use Rattle.replay_run.proofs.keeping.BehindTurns.{Behind, behind, blocked, ended, moved}
use Rattle.replay_run.proofs.keeping.StepCases.{IsCalled, StepCase, looks, rests, step_case, turns}
use Rattle.replay_run.proofs.lists.SetViews.{all_found}

module _ {V T : Type 0} where
  -- a call that goes on is at such a step
  abbrev ServedOn : Progress (Reply V) → At V T → Type 0
  ServedOn (Ended reply) at = Unit {0}
  ServedOn other at = is_served at ≡ true

module _ {V T M : Type 0} (r : Rules V T) (s : Store V M) where
  unlocked : (w : World V T) (call : CallId) (ask : Ask T) → must_lock r s w call ask ≡ false → is_served {V = V} (Reading ServeUnlocked ask) ≡ true
  unlocked w call (Update edit) need_not = never (sym need_not)
  unlocked w call Read need_not = refl

  row_served : (w : World V T) (call : CallId) {at : At V T} {e : Effect V T} → Row r s w call at e → is_served at ≡ true → ServedOn (gave_by e.next) (at_by e.next at)
  row_served w call (waits another must) served = served
  row_served w call (goes_without {ask} another need_not) served = unlocked w call ask need_not
  row_served w call (takes_first may unready) served = refl
  row_served w call (takes may ready) served = refl
  row_served w call (loads read) served = refl
  row_served w call (migrates none) served = refl
  row_served w call finishes served = refl
  row_served w call (keeps read kept) served = refl
  row_served w call (changes made fits) served = refl
  row_served w call raises served = refl
  row_served w call creates served = refl
  row_served w call appends served = refl
  row_served w call syncs_scratch served = refl
  row_served w call renames served = refl
  row_served w call other served = tt

  served_by : (gone died dies : Bool) (t : Turned V T) (e : Effect V T) → AllowedBy r s gone died dies t e → is_served t.call.at ≡ true → ServedOn (gave_by e.next) (at_by e.next t.call.at)
  served_by true died dies t e it served = absurd it
  served_by false true dies t e it served = rw it.is tt
  served_by false false true t e it served = rw it tt
  served_by false false false t e it served = row_served t.world t.call.id it served

  turn_served : (t : Turned V T) (gave : Progress (Reply V)) → Turn r s t gave → is_served t.call.at ≡ true → ServedOn gave t.call_after.at
  turn_served t gave it served =
      rw (it.comes.given, ap (λ (c : Call V T). c.at) it.comes.call) (served_by (is_gone t.call.at) (has_died_by (begin t)) (dies_now (begin t)) (begin t) it.effect it.allowed served)

-- so is the call that runs
abbrev pub RunsServed : Client → Type 0
RunsServed client = IfSome client.running (λ call. is_served call.at ≡ true)

behind_served : {client now : Client} {call : PrefCall} {gave : Progress (Reply Value)} → Behind client call gave now → ServedOn gave call.at → RunsServed now
behind_served moved served = served
behind_served blocked served = served
behind_served (ended tells) served = tt

looked : (client : Client) (found : Option PrefCached) → RunsServed (behind_look client found)
looked client (Some kept) = tt
looked client None = refl

begins_served : (asked : Act) → IsCalled asked → is_served (first_at asked) ≡ true
begins_served (act.Update edit) has = refl
begins_served act.Read has = refl
begins_served (act.Restart node) has = refl
begins_served other has = absurd has

module _ (client : Client) where
  pub call_served : (asked : Act) → IsCalled asked → (running : Option PrefCall) → client.running ≡ running → RunsServed client → is_served (call_now client asked).at ≡ true
  call_served asked has None is served = rw is (begins_served asked has)
  call_served asked has (Some call) is served = rw is (let it : IfSome (Some call) (λ (call : PrefCall). is_served call.at ≡ true) = rw is at served in it)

  -- what it is at is among what it is asked for
  pub now_asked : (asked : Option Act) → act_now client ≡ asked → All IsCalled client.asked → IfSome asked IsCalled
  now_asked None is all = tt
  now_asked (Some a) is all = all_found IsCalled client.asked (length client.answered) a is all

module _ (r : PrefRules) {M : Type 0} (s : Store Value M) (client : Client) (view : NodeView) (after : Client) (view_after : NodeView) where
  by_case : RunsServed client → StepCase r s client view after view_after → RunsServed after
  by_case served (rests none now same) = rw now served
  by_case served (turns asked has is turn) =
      behind_served (behind client turn.call_after turn.gave after turn.now)
      (turn_served r s (record { world = view.world; call = call_now client asked; world_after = view_after.world; call_after = turn.call_after }) turn.gave turn.turn (call_served client asked has client.running refl served))
  by_case served (looks asked idle look) = rw look.now (looked client _)

  -- it stays so from step to step
  pub still_served : RunsServed client → ClientSteps r s client view after view_after → RunsServed after
  still_served served steps = by_case served (step_case r s client view after view_after steps)
