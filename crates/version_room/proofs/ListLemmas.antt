-- Places of lists, and beginnings of lists.
use Rattle.std.proofs.Common.{◌≡◌, ◌⊎◌, ℕ, zero, suc, ◌<◌, ◌≤◌, List, [], ◌∷◌, ◌++◌, length, drop, set, refl, sym, ap, ◌∙◌, subst, inl, inr, ⊎_elim, arith, append_assoc, append-nil}
use mathlib.Core.Option.{some, some-injective, some-ne-none}
use mathlib.Core.List.{IsPrefix}
use lib.ListN.{get_elem?}
use lib.Seq.{drop-append_seam}

module _ {A : Type 0} where
  pub set_at : (l : List A) (i : ℕ) (a b : A) → get_elem? l i ≡ some a → get_elem? (set l i b) i ≡ some b
  set_at [] i a b e = absurd (some-ne-none a (sym e))
  set_at (x ∷ xs) zero a b e = refl
  set_at (x ∷ xs) (suc i) a b e = set_at xs i a b e

  pub at_end : (l : List A) (a b : A) (j : ℕ) → get_elem? (l ++ a ∷ []) j ≡ some b → (get_elem? l j ≡ some b) ⊎ ((j ≡ length l) × (a ≡ b))
  at_end [] a b zero e = inr (refl, some-injective a b e)
  at_end [] a b (suc j) e = absurd (some-ne-none b (sym e))
  at_end (x ∷ xs) a b zero e = inl e
  at_end (x ∷ xs) a b (suc j) e = ⊎_elim inl (λ t. inr (ap suc t.0, t.1)) (at_end xs a b j e)

  pub at_near : (l : List A) (i : ℕ) (a : A) → get_elem? l i ≡ some a → i < length l
  at_near [] i a e = absurd (some-ne-none a (sym e))
  at_near (x ∷ xs) zero a e = omega arith
  at_near (x ∷ xs) (suc i) a e = let n = at_near xs i a e in omega arith

  pub prefix_here : (l : List A) → IsPrefix l l
  prefix_here l = ([], append-nil l)

  pub prefix_none : (l : List A) → IsPrefix [] l
  prefix_none l = (l, refl)

  pub prefix_trans : (a b c : List A) → IsPrefix a b → IsPrefix b c → IsPrefix a c
  prefix_trans a b c p q = (p.0 ++ q.0, sym (append_assoc a p.0 q.0) ∙ (ap (λ (l : List A). l ++ q.0) p.1 ∙ q.1))

  -- what follows a beginning
  pub rest_is : (a b : List A) (p : IsPrefix a b) → drop (length a) b ≡ p.0
  rest_is a b p = subst (λ (l : List A). drop (length a) l ≡ p.0) p.1 (drop-append_seam a p.0)

  pub rest_joins : (a b : List A) → IsPrefix a b → a ++ drop (length a) b ≡ b
  rest_joins a b p = ap (λ (l : List A). a ++ l) (rest_is a b p) ∙ p.1

  -- of two beginnings of one list the shorter begins the longer
  pub prefix_of_shorter : (a b l : List A) → IsPrefix a l → IsPrefix b l → length a ≤ length b → IsPrefix a b
  prefix_of_shorter [] b l p q le = (b, refl)
  prefix_of_shorter (x ∷ xs) [] l p q le = absurd (omega arith)
  prefix_of_shorter (x ∷ xs) (y ∷ ys) [] p q le = absurd (cc (p.1))
  prefix_of_shorter (x ∷ xs) (y ∷ ys) (z ∷ zs) p q le =
      let heads : x ≡ y = cc (p.1, q.1) in
      let rest = prefix_of_shorter xs ys zs (p.0, cc (p.1)) (q.0, cc (q.1)) (omega arith) in
      (rest.0, cc (heads, rest.1))
