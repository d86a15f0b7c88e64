-- What is seen of a list once one element is another.
use Rattle.std.proofs.Common.{◌≡◌, ◌∙◌, inl, inr, ℕ, suc, zero, List, [], ◌∷◌, map, All, Some, get_or, slice_get, slice_set, refl, sym, ap, subst, arith}
use Rattle.std.proofs.lemmas.Option.{get_or_from_slice_get, slice_get-get_or, slice_get_within}
use Rattle.replay_run.proofs.lists.SetLemmas.{found_then}

module _ {X : Type 0} (P : X → Type 0) where
  pub all_found : (xs : List X) (i : ℕ) (x : X) → slice_get xs i ≡ Some x → All P xs → P x
  all_found xs i x found all = subst P (get_or_from_slice_get xs i x x found) (all i x (slice_get_within xs i x found))

  -- it holds of the new element, and of each other that was there
  pub all_set : (xs : List X) (i : ℕ) (x : X) → P x → ((j : ℕ) (y : X) → (j ≡ i → ⊥) → slice_get xs j ≡ Some y → P y) → All P (slice_set xs i x)
  all_set xs i x mine others =
      λ k d within.
      elim (found_then xs i k x (get_or (slice_set xs i x) k d) (slice_get-get_or (slice_set xs i x) k d within)) [
        | inl here ↦ subst P (sym here.1) mine
        | inr there ↦ others k (get_or (slice_set xs i x) k d) there.0 there.1
      ]

module _ {X Y : Type 0} (g h : X → Y) where
  map_same : (xs : List X) → ((j : ℕ) (y : X) → slice_get xs j ≡ Some y → g y ≡ h y) → map g xs ≡ map h xs
  map_same [] same = refl
  map_same (x ∷ xs) same = ap (λ y. y ∷ map g xs) (same 0 x refl) ∙ ap (λ rest. h x ∷ rest) (map_same xs (λ j y is. same (suc j) y is))

  -- the others are seen as before
  pub map_set : (xs : List X) (i : ℕ) (x : X) → ((j : ℕ) (y : X) → (j ≡ i → ⊥) → slice_get xs j ≡ Some y → g y ≡ h y) → map g (slice_set xs i x) ≡ slice_set (map h xs) i (g x)
  map_set [] zero x same = refl
  map_set [] (suc i) x same = refl
  map_set (z ∷ zs) zero x same = ap (λ rest. g x ∷ rest) (map_same zs (λ j y is. same (suc j) y (λ no. omega (arith, no)) is))
  map_set (z ∷ zs) (suc i) x same = ap (λ y. y ∷ map g (slice_set zs i x)) (same 0 z (λ no. omega (arith, no)) refl) ∙ ap (λ rest. h z ∷ rest) (map_set zs i x (λ j y apart is. same (suc j) y (λ no. apart (omega (arith, no))) is))
