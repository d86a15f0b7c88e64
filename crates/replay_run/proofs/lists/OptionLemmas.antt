-- What is found, and what is not.
use Rattle.std.proofs.Common.{◌≡◌, ◌∙◌, inl, inr, ◌≤◌, ◌<◌, ℕ, suc, zero, Bool, false, List, [], ◌∷◌, length, Option, Some, None, slice_get, sym, ap, arith}
use Rattle.std.specs.List.{list_any}
use Rattle.std.proofs.lemmas.Bool.{or_parts}
use Rattle.std.proofs.lemmas.Option.{slice_get_cases}

pub nothing : {X Y : Type 0} (y : Y) → ◌≡◌ {A = Option Y} None (Some y) → X
nothing y is = absurd cc

pub one_of : {Y : Type 0} (x y : Y) → ◌≡◌ {A = Option Y} (Some x) (Some y) → x ≡ y
one_of x y is = cc

pub one_of_it : {X : Type 0} (found : Option X) (x y : X) → found ≡ Some x → found ≡ Some y → x ≡ y
one_of_it found x y first second = one_of x y (sym first ∙ second)

pub none_past : {X : Type 0} (xs : List X) (n : ℕ) → slice_get xs n ≡ None → length xs ≤ n
none_past xs n none = elim (slice_get_cases xs n).1 [ inl found ↦ nothing found.0 (sym none ∙ found.2) | inr past ↦ past.0 ]

-- where no element passes the test, one that is found does not
pub none_at : {X : Type 0} (p : X → Bool) (xs : List X) (place : ℕ) (x : X) → list_any p xs ≡ false → slice_get xs place ≡ Some x → p x ≡ false
none_at p [] place x none found = nothing x found
none_at p (y ∷ xs) zero x none found = ap p (sym (one_of y x found)) ∙ (or_parts (p y) (list_any p xs) none).0
none_at p (y ∷ xs) (suc place) x none found = none_at p xs place x (or_parts (p y) (list_any p xs) none).1 found

-- within the list there is an element
pub there : {X : Type 0} (xs : List X) (n : ℕ) → n < length xs → (x : X) × (slice_get xs n ≡ Some x)
there xs n within = elim (slice_get_cases xs n).1 [ inl found ↦ (found.0, found.2) | inr past ↦ absurd (omega (arith, within, past.0)) ]
