-- In each round somebody's step leaves less to do, as long as anybody has something.
use Rattle.std.proofs.Common.{◌≡◌, ◌∙◌, ◌⊎◌, inl, inr, ◌<◌, ◌+◌, ◌==◌, ℕ, Bool, true, false, length, Some, IfSome, is_some, slice_get, slice_index_or, refl, sym, ap, subst, arith}
use Rattle.std.proofs.lemmas.Bool.{eqb-true, eqb-false as apart_of}
use Rattle.std.proofs.lemmas.List.Folds.{list_any_none}
use Rattle.std.proofs.lemmas.Option.{slice_get-get_or, slice_get_within}
use Rattle.store_traits.specs.declared.ids.CallId.{CallId}
use Rattle.shelf.specs.declared.store.Store.{Store}
use Rattle.shelf.proofs.Bools.{never}
use Rattle.replay_run.specs.ClientInvariant.{CallInvariant}
use Rattle.replay_run.specs.Rounds.{IsOver}
use Rattle.replay_run.specs.RunInvariant.{HasOwner, RunInvariant}
use Rattle.replay_run.specs.RunState.{Client, RunState, is_busy}
use Rattle.replay_run.specs.Settings.{PrefRules, PrefWorld, Value}
use Rattle.replay_run.specs.Steps.{StepsAt}
use Rattle.replay_run.specs.WorkLeft.{IsStill, RoundSoFar, Waits, work_left}
use Rattle.replay_run.proofs.lists.OptionLemmas.{one_of_it}
use Rattle.replay_run.proofs.lists.SetLemmas.{others_found}
use Rattle.replay_run.proofs.work.StepsFall.{FallsOrIdles, steps_fall}

-- a round from this state
module _ (r : PrefRules) {M : Type 0} (s : Store Value M) (start : RunState) where
  abbrev limit : ℕ
  limit = s.limits.file

  abbrev SoFar : ℕ → RunState → Type 0
  SoFar place now = RoundSoFar limit start place now

  pub round_begins : SoFar 0 start
  round_begins = inr (record { world = refl; work = omega arith; others = λ other later. refl; waited = λ other client earlier found. absurd (omega (arith, earlier)) })

  module _ (place : ℕ) (now after : RunState) (it : StepsAt r s place now after) where
    -- so it is with the client that had its step, and with those before it
    waited_so : ((is_busy it.client ≡ false) ⊎ Waits start it.client) → IsStill limit start place now → (other : ℕ) (c : Client) → other < place + 1 → slice_get start.clients other ≡ Some c → (is_busy c ≡ false) ⊎ Waits start c
    waited_so so still other c earlier there = by_place (other == place) refl
      where
        by_place : (b : Bool) → (other == place) ≡ b → (is_busy c ≡ false) ⊎ Waits start c
        by_place true is =
            let here : other ≡ place = eqb-true other place is in
            let same : it.client ≡ c = one_of_it (slice_get now.clients place) it.client c it.was (still.others place (omega arith) ∙ (rw (← here) there)) in
            rw (← same) so
        by_place false is = still.waited other c (omega (arith, earlier, apart_of other place is)) there

    since_start : IsStill limit start place now → ((is_busy it.client ≡ false) ⊎ Waits now it.client) → (is_busy it.client ≡ false) ⊎ Waits start it.client
    since_start still (inl nothing) = inl nothing
    since_start still (inr w) = inr (record { owner = w.owner; owned = ap (λ (x : PrefWorld). x.owner) (sym still.world) ∙ w.owned; holds_none = w.holds_none })

    goes_on : FallsOrIdles limit it.client now after → SoFar place now → SoFar (place + 1) after
    goes_on (inl falls) (inl less) = inl (omega (arith, falls, less))
    goes_on (inl falls) (inr still) = inl (omega (arith, falls, still.work))
    goes_on (inr idle) (inl less) = inl (omega (arith, idle.work, less))
    goes_on (inr idle) (inr still) =
        inr
        (record {
          world = idle.world ∙ still.world;
          work = omega (arith, idle.work, still.work);
          others = λ other later. ap (λ c. slice_get c other) it.now ∙ (others_found now.clients place other it.client_after (λ same. omega (arith, later, same)) ∙ still.others other (omega (arith, later)));
          waited = waited_so (since_start still idle.why) still;
        })

    -- the client at this place has its step
    pub round_goes_on : RunInvariant r s now → SoFar place now → SoFar (place + 1) after
    round_goes_on keeps so_far = goes_on (steps_fall r s place now after it keeps) so_far

  -- behind a round nobody had anything to do, or there is less to do
  pub round_falls : (now : RunState) → RunInvariant r s start → SoFar (length start.clients) now → IsOver start ⊎ (work_left limit now < work_left limit start)
  round_falls now keeps (inl less) = inr less
  round_falls now keeps (inr still) = inl (list_any_none is_busy start.clients (λ k d within. idle k (slice_index_or start.clients k d) (slice_get-get_or start.clients k d within)))
    where
      -- the owner of the lock holds it, and so does not wait
      owned : (owner : CallId) → HasOwner start.clients start.shared.world.history owner → ⊥
      owned owner has =
          let kept : CallInvariant r s has.client start.shared.world has.call = subst (λ o. IfSome o (CallInvariant r s has.client start.shared.world)) has.runs (keeps.clients has.place has.client has.found).running in
          elim (still.waited has.place has.client (slice_get_within start.clients has.place has.client has.found) has.found) [
            | inl nothing ↦ never (sym nothing ∙ ap (λ o. is_some o) kept.at_it)
            | inr waits ↦ never (sym (waits.holds_none has.call has.runs) ∙ has.holds)
          ]

      idle : (place : ℕ) (client : Client) → slice_get start.clients place ≡ Some client → is_busy client ≡ false
      idle place client found =
          elim (still.waited place client (slice_get_within start.clients place client found) found) [
            | inl nothing ↦ nothing
            | inr waits ↦ absurd (owned waits.owner (subst (λ o. IfSome o (HasOwner start.clients start.shared.world.history)) waits.owned keeps.owner))
          ]
