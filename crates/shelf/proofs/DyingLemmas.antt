-- A plan of deaths of which none strikes.
use Rattle.std.proofs.Common.{◌≡◌, ◌∙◌, Bool, false, not, List, [], ◌∷◌, cond, filter, refl, ap}
use Rattle.std.specs.List.{list_any}
use Rattle.std.proofs.lemmas.Bool.{or_parts}
use Rattle.store_traits.specs.declared.ids.CallId.{CallId}
use Rattle.store_traits.specs.declared.step.Step.{Step}
use Rattle.shelf.specs.DeathPlan.{DeathPlanSeen}
use Rattle.shelf.specs.Deaths.{strikes, used_up}

-- a list of which none passes is all that do not pass
pub none_filtered : {X : Type 0} (p : X → Bool) (xs : List X) → list_any p xs ≡ false → filter (λ x. not (p x)) xs ≡ xs
none_filtered p [] none = refl
none_filtered p (x ∷ xs) none =
    let parts = or_parts (p x) (list_any p xs) none in
    ap (λ b. cond (not b) (x ∷ filter (λ y. not (p y)) xs) (filter (λ y. not (p y)) xs)) parts.0 ∙ ap (λ ys. x ∷ ys) (none_filtered p xs parts.1)

pub none_used : (call : CallId) (step : Step) (old new : DeathPlanSeen) → list_any (strikes call step) old.left ≡ false → new ≡ record old { left = used_up call step old.left } → new ≡ old
none_used call step old new none is = is ∙ ap (λ left. record old { left = left }) (none_filtered (strikes call step) old.left none)
