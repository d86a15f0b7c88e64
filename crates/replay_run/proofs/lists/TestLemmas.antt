-- Which elements of a list pass a test.
use Rattle.std.proofs.Common.{◌≡◌, ◌∙◌, ◌||◌, Bool, true, false, suc, List, [], ◌∷◌, ◌++◌, All, Contains, if◌then◌else◌, refl, arith}
use Rattle.std.specs.List.{filter, list_any}
use Rattle.std.proofs.lemmas.Bool.{or_parts}
use Rattle.std.proofs.lemmas.List.Elements.{All-cons, All-contains, All-nil, All-weaker}
use Rattle.std.proofs.lemmas.List.Folds.{list_any-append}
use Rattle.shelf.proofs.Bools.{never}
use Rattle.replay_run.proofs.lists.StandLemmas.{contains_at}

module _ {X : Type 0} where
  there_too : (x : X) (xs : List X) (y : X) → Contains xs y → Contains (x ∷ xs) y
  there_too x xs y it = (suc it.0, (let within = it.1 in omega (arith, within)), it.2)

  module _ (p : X → Bool) where
    -- where none passes, none does
    pub all_fail : (xs : List X) → list_any p xs ≡ false → All (λ x. p x ≡ false) xs
    all_fail [] none = All-nil (λ x. p x ≡ false)
    all_fail (x ∷ xs) none = let parts = or_parts (p x) (list_any p xs) none in All-cons (λ x. p x ≡ false) x xs parts.0 (all_fail xs parts.1)

    -- where one passes, there is one
    pub some_passes : (xs : List X) → list_any p xs ≡ true → (x : X) × Contains xs x × (p x ≡ true)
    some_passes [] one = never one
    some_passes (x ∷ xs) one = by_first (p x) refl (some_passes xs) one
      where
        by_first : (b : Bool) → p x ≡ b → (list_any p xs ≡ true → (y : X) × Contains xs y × (p y ≡ true)) → (b || list_any p xs) ≡ true → (y : X) × Contains (x ∷ xs) y × (p y ≡ true)
        by_first true is rest one = (x, contains_at [] x xs, is)
        by_first false is rest one = let it = rest one in (it.0, there_too x xs it.0 it.1, it.2)

    -- and does still among more
    pub any_before : (xs ys : List X) → list_any p xs ≡ true → list_any p (xs ++ ys) ≡ true
    any_before xs ys one = list_any-append p xs ys ∙ rw one refl

    kept_all : (xs : List X) → All (λ x. p x ≡ true → Contains (filter p xs) x) xs
    kept_all [] = All-nil (λ x. p x ≡ true → Contains [] x)
    kept_all (x ∷ xs) =
        All-cons (λ y. p y ≡ true → Contains (filter p (x ∷ xs)) y) x xs (λ passes. rw passes (contains_at [] x (filter p xs)))
        (All-weaker (λ y. p y ≡ true → Contains (filter p xs) y) (λ y. p y ≡ true → Contains (filter p (x ∷ xs)) y) (λ y kept passes. still (p x) y (kept passes)) xs (kept_all xs))
      where
        still : (b : Bool) (y : X) → Contains (filter p xs) y → Contains (if b then x ∷ filter p xs else filter p xs) y
        still true y it = there_too x (filter p xs) y it
        still false y it = it

    -- one that passes is kept by a filter
    pub kept_there : (xs : List X) (x : X) → Contains xs x → p x ≡ true → Contains (filter p xs) x
    kept_there xs x there = All-contains (λ x. p x ≡ true → Contains (filter p xs) x) xs x (kept_all xs) there
