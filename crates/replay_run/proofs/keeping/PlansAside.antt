-- Deaths of a call that are not planned at steps of these kinds.
use Rattle.std.proofs.Common.{◌≡◌, ◌&&◌, Bool, true, false, List, [], ◌∷◌, refl}
use Rattle.std.proofs.lemmas.Bool.{and_right, or_parts}
use Rattle.store_traits.specs.declared.ids.CallId.{CallId}
use Rattle.store_traits.specs.declared.step.Step.{Step}
use Rattle.hist_journal.specs.Kinds.{is_call}
use Rattle.shelf.specs.declared.store.PlannedDeath.{PlannedDeath}
use Rattle.script_lang.specs.GoodFailures.{plans}

module _ (call : CallId) where
  -- of no step none is
  pub plans_none : (planned : List PlannedDeath) (p : Step → Bool) → ((step : Step) → p step ≡ false) → plans p call planned ≡ false
  plans_none [] p none = refl
  plans_none (death ∷ planned) p none = rw (and_right (is_call call death.call) (p death.step) (none death.step), plans_none planned p none) refl

  -- nor of steps that are of one kind or another
  pub plans_either : (planned : List PlannedDeath) (p first second : Step → Bool) → ((step : Step) → first step ≡ false → second step ≡ false → p step ≡ false) → plans first call planned ≡ false → plans second call planned ≡ false → plans p call planned ≡ false
  plans_either [] p first second so one other = refl
  plans_either (death ∷ planned) p first second so one other =
      let ones = or_parts (is_call call death.call && first death.step) (plans first call planned) one in
      let others = or_parts (is_call call death.call && second death.step) (plans second call planned) other in
      rw (here (is_call call death.call) ones.0 others.0, plans_either planned p first second so ones.1 others.1) refl
    where
      here : (own : Bool) → (own && first death.step) ≡ false → (own && second death.step) ≡ false → (own && p death.step) ≡ false
      here true one other = so death.step one other
      here false one other = refl
