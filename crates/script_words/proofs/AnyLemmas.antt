-- What `any` tells of a list that is seen through its elements.
use Rattle.std.proofs.Common.{◌≡◌, ◌∙◌, ◌<◌, ℕ, zero, suc, List, [], ◌∷◌, length, get_or, Bool, true, false, MatchBool, refl, sym, ap, subst, arith}
use Rattle.std.specs.Prelude.{Any, Contains, IsTrue, ◌↔◌, map}
use Rattle.std.specs.List.{AllWithin, HoldsAt}
use Rattle.std.proofs.lemmas.Bool.{false≢true}
use Rattle.std.proofs.lemmas.List.{get_or-map, length-map}

element_at : {X : Type 0} (xs : List X) (k : ℕ) → k < length xs → (x : X) × (get_or xs k x ≡ x)
element_at [] k within = absurd (omega arith)
element_at (x ∷ xs) zero within = (x, refl)
element_at (x ∷ xs) (suc k) within = element_at xs k (omega arith)

some_seen : {X Y : Type 0} (view : X → Y) (P : Y → Type 0) (xs : List X) (k : ℕ) → k < length xs → HoldsAt (λ x. P (view x)) xs k → Any P (map view xs)
some_seen view P xs k within holds =
    let found = element_at xs k within in
    let seen = get_or-map view xs k found.0 (view found.0) within ∙ ap view found.1 in
    (k, view found.0, omega (arith, length-map xs view), seen, subst (λ x. P (view x)) found.1 (holds found.0))

none_seen : {X Y : Type 0} (view : X → Y) (P : Y → Type 0) (xs : List X) → AllWithin (λ x. P (view x) → ⊥) xs 0 (length xs) → Any P (map view xs) → ⊥
none_seen view P xs none some =
    let k = some.0 in
    let within : k < length xs = omega (arith, length-map xs view, some.2) in
    let found = element_at xs k within in
    let seen = sym (get_or-map view xs k found.0 some.1 within) ∙ some.3 in
    none k found.0 (omega arith) within (subst P (sym seen) some.4)

-- the answer is true exactly where some element, as it is seen, has the property
pub any_seen : {X Y : Type 0} (view : X → Y) (P : Y → Type 0) (xs : List X) (answer : Bool)
    → MatchBool answer ((k : ℕ) × (k < length xs) × HoldsAt (λ x. P (view x)) xs k) (AllWithin (λ x. P (view x) → ⊥) xs 0 (length xs)) → IsTrue answer ↔ Any P (map view xs)
any_seen view P xs true found = (λ yes. some_seen view P xs found.0 found.1 found.2, λ some. refl)
any_seen view P xs false none = (λ yes. absurd (false≢true yes), λ some. absurd (none_seen view P xs none some))

-- an element that is this one
pub any_is : {X : Type 0} (xs : List X) (one : X) (answer : Bool) → IsTrue answer ↔ Any (λ x. x ≡ one) xs → IsTrue answer ↔ Contains xs one
any_is xs one answer told = (λ yes. there (told.0 yes), λ contains. told.1 (contains.0, one, contains.1, contains.2, refl))
  where
    there : Any (λ x. x ≡ one) xs → Contains xs one
    there some = (some.0, some.2, subst (λ x. get_or xs some.0 x ≡ x) some.4 some.3)
