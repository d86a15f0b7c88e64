-- What a test says of its parts, and of the elements of a list.
use Rattle.std.proofs.Common.{◌≡◌, ◌∙◌, ◌&&◌, ◌==◌, Bool, true, false, ℕ, nat_lt, List, [], ◌∷◌, ◌++◌, refl, sym, arith}
use Rattle.std.specs.List.{list_any}
use Rattle.std.proofs.lemmas.Bool.Decides.{nat_tests}
use Rattle.std.proofs.lemmas.List.Folds.{list_any-append}

pub never : {X : Type 0} → false ≡ true → X
never is = absurd (cc)

-- what is of no such call is of no kind of it
pub own_first : (own kind : Bool) → (own && true) ≡ false → (own && kind) ≡ false
own_first true kind none = never (sym none)
own_first false kind none = refl

pub symmetric : (a b : ℕ) → (a == b) ≡ (b == a)
symmetric a b = grind (arith, nat_tests)

-- no call is later than itself
pub not_later : (same : Bool) (number : ℕ) → (same && nat_lt number number) ≡ false
not_later same number = grind (arith, nat_tests)

-- neither of two parts has an element that passes
pub none_in_both : {X : Type 0} (p : X → Bool) (xs ys : List X) → list_any p xs ≡ false → list_any p ys ≡ false → list_any p (xs ++ ys) ≡ false
none_in_both p xs ys first second = list_any-append p xs ys ∙ rw (first, second) refl

-- one more that does not pass
pub one_more : {X : Type 0} (p : X → Bool) (list : List X) (x : X) → list_any p list ≡ false → p x ≡ false → list_any p (list ++ x ∷ []) ≡ false
one_more p list x were is = none_in_both p list (x ∷ []) were (rw is refl)
