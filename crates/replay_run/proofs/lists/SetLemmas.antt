-- What stands in a list once one element is another.
use Rattle.std.proofs.Common.{◌≡◌, ◌∙◌, ◌⊎◌, inl, inr, ℕ, suc, zero, ◌+◌, List, [], ◌∷◌, Option, Some, None, slice_get, slice_set, sum_by, refl, ap, arith}
use Rattle.std.proofs.lemmas.List.Sums.{sum_by-cons}

module _ {X : Type 0} where
  pub set_same : (xs : List X) (i : ℕ) (x : X) → slice_get xs i ≡ Some x → slice_set xs i x ≡ xs
  set_same [] zero x is = refl
  set_same [] (suc i) x is = refl
  set_same (z ∷ zs) zero x is = let same : z ≡ x = cc in rw same refl
  set_same (z ∷ zs) (suc i) x is = rw (set_same zs i x is) refl

  -- the element that was set, or one of another place
  pub found_then : (xs : List X) (i j : ℕ) (x y : X) → slice_get (slice_set xs i x) j ≡ Some y → ((j ≡ i) × (y ≡ x)) ⊎ ((j ≡ i → ⊥) × (slice_get xs j ≡ Some y))
  found_then [] zero j x y is = absurd (let no : ◌≡◌ {A = Option X} None (Some y) = is in cc)
  found_then [] (suc i) j x y is = absurd (let no : ◌≡◌ {A = Option X} None (Some y) = is in cc)
  found_then (z ∷ zs) zero zero x y is = inl (refl, (let same : ◌≡◌ {A = Option X} (Some x) (Some y) = is in cc))
  found_then (z ∷ zs) zero (suc j) x y is = inr ((λ same. omega (arith, same)), is)
  found_then (z ∷ zs) (suc i) zero x y is = inr ((λ same. omega (arith, same)), is)
  found_then (z ∷ zs) (suc i) (suc j) x y is =
      elim (found_then zs i j x y is) [
        | inl here ↦ inl (ap suc here.0, here.1)
        | inr there ↦ inr ((λ same. there.0 (omega (arith, same))), there.1)
      ]

  pub set_found : (xs : List X) (i : ℕ) (x y : X) → slice_get xs i ≡ Some y → slice_get (slice_set xs i x) i ≡ Some x
  set_found [] i x y is = absurd (let no : ◌≡◌ {A = Option X} None (Some y) = is in cc)
  set_found (z ∷ zs) zero x y is = refl
  set_found (z ∷ zs) (suc i) x y is = set_found zs i x y is

  pub others_found : (xs : List X) (i j : ℕ) (x : X) → (j ≡ i → ⊥) → slice_get (slice_set xs i x) j ≡ slice_get xs j
  others_found [] zero j x apart = refl
  others_found [] (suc i) j x apart = refl
  others_found (z ∷ zs) zero zero x apart = absurd (apart refl)
  others_found (z ∷ zs) zero (suc j) x apart = refl
  others_found (z ∷ zs) (suc i) zero x apart = refl
  others_found (z ∷ zs) (suc i) (suc j) x apart = others_found zs i j x (λ same. apart (ap suc same))

  -- a sum in which one part is another
  pub sum_then : (f : X → ℕ) (xs : List X) (i : ℕ) (x y : X) → slice_get xs i ≡ Some y → sum_by f (slice_set xs i x) + f y ≡ sum_by f xs + f x
  sum_then f [] i x y is = absurd (let no : ◌≡◌ {A = Option X} None (Some y) = is in cc)
  sum_then f (z ∷ zs) zero x y is =
      let same : ◌≡◌ {A = Option X} (Some z) (Some y) = is in
      let equal : z ≡ y = cc in
      let now : sum_by f (slice_set (z ∷ zs) zero x) ≡ f x + sum_by f zs = sum_by-cons f x zs in
      let was : sum_by f (z ∷ zs) ≡ f y + sum_by f zs = sum_by-cons f z zs ∙ ap (λ w. f w + sum_by f zs) equal in
      rw (now, was) omega arith
  sum_then f (z ∷ zs) (suc i) x y is =
      let rest = sum_then f zs i x y is in
      let now : sum_by f (slice_set (z ∷ zs) (suc i) x) ≡ f z + sum_by f (slice_set zs i x) = sum_by-cons f z (slice_set zs i x) in
      let was : sum_by f (z ∷ zs) ≡ f z + sum_by f zs = sum_by-cons f z zs in
      rw (now, was) (omega (arith, rest))
