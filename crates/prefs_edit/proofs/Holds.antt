-- A fact that each step keeps is a fact of what an edit makes.
use Rattle.std.proofs.Common.{◌≡◌, ℕ, ℤ, List, [], ◌∷◌, Option, Some, None, Bool, true, false, All, refl, subst, if◌then◌else◌}
use Rattle.std.proofs.lemmas.List.Elements.{All-head, All-tail}
use Rattle.store_traits.specs.declared.applied.Applied.TheVariants.{Changed, Refused}
use Rattle.prefs_model.specs.declared.pref_pair.PrefPair.{PrefPair}
use Rattle.prefs_model.specs.declared.pref_value.PrefValue.{PrefValue}
use Rattle.prefs_model.specs.Map.{with_value}
use Rattle.prefs_edit.specs.declared.edit_step.EditStep.{EditStep}
use Rattle.prefs_edit.specs.Step.{Outcome, after_step, of_kind, fits, with_sum}
use Rattle.prefs_edit.specs.After.{and_then, after_steps}

module _ (P : List PrefPair → Type 0) where
  -- the fact, of the map that there is
  abbrev pub Holds : Outcome → Type 0
  Holds (Changed map) = P map
  Holds (Refused code) = Unit {0}

  pub holds_of : (outcome : Outcome) (changed : List PrefPair) → Holds outcome → outcome ≡ Changed changed → P changed
  holds_of outcome changed holds is = subst Holds is holds

  pub holds_of_kind : {X : Type 0} (content : Option X) (next : X → Outcome) → ((x : X) → content ≡ Some x → Holds (next x)) → Holds (of_kind content next)
  holds_of_kind None next each = tt
  holds_of_kind (Some x) next each = each x refl

  sum_by_fit : (b : Bool) (kind : ℤ → PrefValue) (map : List PrefPair) (key : List ℕ) (sum : ℤ) → (b ≡ true → P (with_value map key (kind sum))) → Holds (if b then Changed (with_value map key (kind sum)) else Refused 2)
  sum_by_fit true kind map key sum holds = holds refl
  sum_by_fit false kind map key sum holds = tt

  pub holds_with_sum : (bits : ℕ) (kind : ℤ → PrefValue) (map : List PrefPair) (key : List ℕ) (sum : ℤ) → (fits bits sum ≡ true → P (with_value map key (kind sum))) → Holds (with_sum bits kind map key sum)
  holds_with_sum bits kind map key sum holds = sum_by_fit (fits bits sum) kind map key sum holds

  pub holds_either : (b : Bool) (map other : List PrefPair) → P map → P other → P (if b then map else other)
  holds_either true map other here there = here
  holds_either false map other here there = there

  pub holds_required : (b : Bool) (map : List PrefPair) → P map → Holds (if b then Changed map else Refused 3)
  holds_required true map here = here
  holds_required false map here = tt

  module _ (Q : EditStep → Type 0) (each : (step : EditStep) (map : List PrefPair) → Q step → P map → Holds (after_step step map)) where
    holds_then : (outcome : Outcome) (next : List PrefPair → Outcome) → Holds outcome → ((map : List PrefPair) → P map → Holds (next map)) → Holds (and_then outcome next)
    holds_then (Changed map) next holds behind = behind map holds
    holds_then (Refused code) next holds behind = tt

    pub holds_after : (steps : List EditStep) (map : List PrefPair) → All Q steps → P map → Holds (after_steps steps map)
    unfolding after_steps
    holds_after [] map all here = here
    holds_after (step ∷ steps) map all here =
        holds_then (after_step step map) (after_steps steps) (each step map (All-head Q step steps all) here) (λ next there. holds_after steps next (All-tail Q step steps all) there)
