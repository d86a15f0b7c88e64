-- One step after another.
use Rattle.std.proofs.Common.{◌≡◌, ℕ, ◌+◌, ◌<◌, List, [], ◌∷◌, ◌++◌, length, take, drop, get_or, refl, sym, ◌∙◌, ap, add-one}
use Rattle.std.proofs.Math.Seq.{take-suc}
use Rattle.std.proofs.lemmas.List.{take-append-drop}
use Rattle.store_traits.specs.declared.applied.Applied.TheVariants.{Changed, Refused}
use Rattle.prefs_model.specs.declared.pref_pair.PrefPair.{PrefPair}
use Rattle.prefs_edit.specs.declared.edit_step.EditStep.{EditStep}
use Rattle.prefs_edit.specs.Step.{after_step}
use Rattle.prefs_edit.specs.After.{and_then, after_steps}

pub after_steps-append : (first second : List EditStep) (map : List PrefPair) → after_steps (first ++ second) map ≡ and_then (after_steps first map) (after_steps second)
unfolding after_steps
after_steps-append [] second map = refl
after_steps-append (step ∷ first) second map =
    elim (after_step step map) as (λ o. and_then o (after_steps (first ++ second)) ≡ and_then (and_then o (after_steps first)) (after_steps second)) [
      | Changed next ↦ after_steps-append first second next
      | Refused code ↦ refl
    ]

one_step : (step : EditStep) (map : List PrefPair) → after_steps (step ∷ []) map ≡ after_step step map
unfolding after_steps
one_step step map =
    elim (after_step step map) as (λ o. and_then o (after_steps []) ≡ o) [
      | Changed next ↦ refl
      | Refused code ↦ refl
    ]

-- what the next step makes of the map so far
pub after_steps-next : (steps : List EditStep) (i : ℕ) (d : EditStep) (old map : List PrefPair) → i < length steps → after_steps (take i steps) old ≡ Changed map → after_steps (take (i + 1) steps) old ≡ after_step (get_or steps i d) map
after_steps-next steps i d old map lt so_far =
    rw (add-one, take-suc steps i d lt, after_steps-append (take i steps) (get_or steps i d ∷ []) old, so_far) (one_step (get_or steps i d) map)

-- the first refusal is that of the whole
pub after_steps-refused : (steps : List EditStep) (i : ℕ) (d : EditStep) (old map : List PrefPair) (code : ℕ) → i < length steps → after_steps (take i steps) old ≡ Changed map → after_step (get_or steps i d) map ≡ Refused code → after_steps steps old ≡ Refused code
after_steps-refused steps i d old map code lt so_far refused =
    let parts = sym (take-append-drop (i + 1) steps) in
    let front = after_steps-next steps i d old map lt so_far ∙ refused in
    ap (λ all. after_steps all old) parts ∙ after_steps-append (take (i + 1) steps) (drop (i + 1) steps) old ∙ ap (λ o. and_then o (after_steps (drop (i + 1) steps))) front
