-- Runs grow at their end: by a step, a round, a line.
use Rattle.std.proofs.Common.{◌≡◌, ◌∙◌, ◌≤◌, ◌<◌, ◌+◌, ◌-◌, ℕ, suc, zero, false, List, [], ◌∷◌, ◌++◌, length, Option, Some, None, is_some, slice_get, slice_set, refl, sym, ap, subst, arith}
use Rattle.script_lang.specs.declared.plan.run_line.Act.{Act}
use Rattle.script_lang.specs.declared.plan.run_line.RunLine.{RunLine}
use Rattle.shelf.specs.declared.store.Store.{Store}
use Rattle.shelf.proofs.Bools.{never}
use Rattle.replay_run.specs.Lines.{Follows, FollowsAll, StepsTimes}
use Rattle.replay_run.specs.Rounds.{Round, Rounds, StepsEach}
use Rattle.replay_run.specs.RunState.{Client, NodeView, RunState, act_now, is_busy}
use Rattle.replay_run.specs.Settings.{PrefCached, PrefRules, Value}
use Rattle.replay_run.specs.Steps.{ClientSteps, StepsAt, brought_back, emptied}
use Rattle.replay_run.proofs.keeping.StepsKeep.{IsNoRestart, none_back}
use Rattle.replay_run.proofs.lists.OptionLemmas.{there}
use Rattle.replay_run.proofs.lists.SetLemmas.{set_same}

-- a client that has nothing to do brings no node back
pub brings_none : (client client_after : Client) (caches : List (Option PrefCached)) → is_busy client ≡ false → emptied (brought_back client client_after) caches ≡ caches
brings_none client client_after caches idle = ap (λ back. emptied back caches) (none_back client client_after (act_now client) refl (by_act (act_now client) idle))
  where
    by_act : (at : Option Act) → is_some at ≡ false → IsNoRestart at
    by_act (Some act) busy = never (sym busy)
    by_act None idle = tt

module _ (r : PrefRules) {M : Type 0} (s : Store Value M) where
  times_push : (place n : ℕ) (old mid new : RunState) → StepsTimes r s place n old mid → StepsAt r s place mid new → StepsTimes r s place (suc n) old new
  unfolding StepsTimes
  times_push place zero old mid new times goes = (new, subst (λ x. StepsAt r s place x new) times goes, refl)
  times_push place (suc n) old mid new times goes = (times.0, times.1, times_push place n times.0 mid new times.2 goes)

  pub times_more : (place n : ℕ) (old mid new : RunState) → StepsTimes r s place n old mid → StepsAt r s place mid new → StepsTimes r s place (n + 1) old new
  times_more place n old mid new times goes =
      let same : suc n ≡ n + 1 = omega arith in
      subst (λ k. StepsTimes r s place k old new) same (times_push place n old mid new times goes)

  pub times_none : (place : ℕ) (state : RunState) → StepsTimes r s place 0 state state
  unfolding StepsTimes
  times_none place state = refl

  -- where a step leaves all as it was, it may be done any number of times
  times_on : (place n more : ℕ) (old new : RunState) → StepsTimes r s place n old new → StepsAt r s place new new → StepsTimes r s place (n + more) old new
  times_on place n zero old new times stays = let same : n ≡ n + 0 = omega arith in subst (λ k. StepsTimes r s place k old new) same times
  times_on place n (suc more) old new times stays =
      let same : n + more + 1 ≡ n + suc more = omega arith in
      subst (λ k. StepsTimes r s place k old new) same (times_more place (n + more) old new new (times_on place n more old new times stays) stays)

  pub times_up_to : (place n steps : ℕ) (old new : RunState) → n ≤ steps → StepsTimes r s place n old new → StepsAt r s place new new → StepsTimes r s place steps old new
  times_up_to place n steps old new within times stays =
      let same : n + (steps - n) ≡ steps = omega (arith, within) in
      subst (λ k. StepsTimes r s place k old new) same (times_on place n (steps - n) old new times stays)

  -- a client that has nothing to do leaves all as it was
  pub rests : (place : ℕ) (state : RunState) (client : Client) → slice_get state.clients place ≡ Some client → is_busy client ≡ false → client.node.0 < length state.shared.caches → StepsAt r s place state state
  rests place state client found idle home =
      let kept = there state.shared.caches client.node.0 home in
      record {
        client = client;
        client_after = client;
        kept = kept.0;
        kept_after = kept.0;
        was = found;
        cache = kept.1;
        steps = by_act _ (act_now client) refl idle;
        caches = sym (brings_none client client (slice_set state.shared.caches client.node.0 kept.0) idle ∙ set_same state.shared.caches client.node.0 kept.0 kept.1);
        now = sym (set_same state.clients place client found);
      }
    where
      by_act : (view : NodeView) (at : Option Act) → act_now client ≡ at → is_some at ≡ false → ClientSteps r s client view client view
      by_act view (Some act) is busy = never (sym busy)
      by_act view None is busy = rw is (refl, refl)

  each_push : (first n : ℕ) (old mid new : RunState) → StepsEach r s first n old mid → StepsAt r s (first + n) mid new → StepsEach r s first (suc n) old new
  unfolding StepsEach
  each_push first zero old mid new each goes =
      let same : first + 0 ≡ first = omega arith in
      (new, subst (λ k. StepsAt r s k old new) same (subst (λ x. StepsAt r s (first + 0) x new) each goes), refl)
  each_push first (suc n) old mid new each goes =
      let same : first + suc n ≡ first + 1 + n = omega arith in
      (each.0, each.1, each_push (first + 1) n each.0 mid new each.2 (subst (λ k. StepsAt r s k mid new) same goes))

  pub each_more : (n : ℕ) (old mid new : RunState) → StepsEach r s 0 n old mid → StepsAt r s n mid new → StepsEach r s 0 (n + 1) old new
  each_more n old mid new each goes =
      let same : suc n ≡ n + 1 = omega arith in
      let here : n ≡ 0 + n = omega arith in
      subst (λ k. StepsEach r s 0 k old new) same (each_push 0 n old mid new each (subst (λ k. StepsAt r s k mid new) here goes))

  pub each_none : (place : ℕ) (state : RunState) → StepsEach r s place 0 state state
  unfolding StepsEach
  each_none place state = refl

  pub rounds_push : (n : ℕ) (old mid new : RunState) → Rounds r s n old mid → Round r s mid new → Rounds r s (suc n) old new
  unfolding Rounds
  rounds_push zero old mid new rounds round = (new, subst (λ x. Round r s x new) rounds round, refl)
  rounds_push (suc n) old mid new rounds round = (rounds.0, rounds.1, rounds_push n rounds.0 mid new rounds.2 round)

  pub rounds_none : (state : RunState) → Rounds r s 0 state state
  unfolding Rounds
  rounds_none state = refl

  pub follows_push : (lines : List RunLine) (line : RunLine) (old mid new : RunState) → FollowsAll r s lines old mid → Follows r s line.client.0 line.act mid new → FollowsAll r s (lines ++ line ∷ []) old new
  unfolding FollowsAll
  follows_push [] line old mid new all follows = (new, subst (λ x. Follows r s line.client.0 line.act x new) all follows, refl)
  follows_push (first ∷ lines) line old mid new all follows = (all.0, all.1, follows_push lines line all.0 mid new all.2 follows)

  pub follows_none : (state : RunState) → FollowsAll r s [] state state
  unfolding FollowsAll
  follows_none state = refl
