-- Elements that stand in a list, in front of some and behind others.
use Rattle.std.proofs.Common.{◌≡◌, ◌∙◌, ℕ, suc, zero, List, [], ◌∷◌, ◌++◌, flat_map, length, All, Contains, Some, append_assoc, slice_get, refl, sym, ap}
use Rattle.std.proofs.lemmas.List.Elements.{All-contains_itself, All-head, All-tail}
use Rattle.replay_run.proofs.lists.OptionLemmas.{nothing, one_of}

-- the element stands in the list
pub record Stands {X : Type 0} (xs : List X) (x : X) : Type 0 where
  pub before : List X
  pub behind : List X
  pub is : xs ≡ before ++ x ∷ behind

-- what holds of each holds of it
pub all_at : {X : Type 0} (P : X → Type 0) (before : List X) (x : X) (behind : List X) → All P (before ++ x ∷ behind) → P x
all_at P [] x behind all = All-head P x behind all
all_at P (y ∷ before) x behind all = all_at P before x behind (All-tail P y (before ++ x ∷ behind) all)

pub contains_at : {X : Type 0} (before : List X) (x : X) (behind : List X) → Contains (before ++ x ∷ behind) x
contains_at before x behind = all_at (Contains (before ++ x ∷ behind)) before x behind (All-contains_itself (before ++ x ∷ behind))

-- the element at a place stands behind so many
pub found_stands : {X : Type 0} (xs : List X) (place : ℕ) (x : X) → slice_get xs place ≡ Some x → (at : Stands xs x) × (length at.before ≡ place)
found_stands [] place x found = nothing x found
found_stands (y ∷ xs) zero x found = (record { before = []; behind = xs; is = ap (λ z. z ∷ xs) (one_of y x found) }, refl)
found_stands (y ∷ xs) (suc place) x found =
    let rest = found_stands xs place x found in
    (record { before = y ∷ rest.0.before; behind = rest.0.behind; is = ap (λ zs. y ∷ zs) rest.0.is }, ap suc rest.1)

-- an element of one list stands in all of them, joined
pub stands_joined : {X Y : Type 0} (f : X → List Y) (xs : List X) (place : ℕ) (x : X) (y : Y) → slice_get xs place ≡ Some x → Stands (f x) y → Stands (flat_map f xs) y
stands_joined f [] place x y found at = nothing x found
stands_joined f (z ∷ xs) zero x y found at =
    record {
      before = at.before;
      behind = at.behind ++ flat_map f xs;
      is = ap (λ list. list ++ flat_map f xs) (ap f (one_of z x found) ∙ at.is) ∙ append_assoc at.before (y ∷ at.behind) (flat_map f xs);
    }
stands_joined f (z ∷ xs) (suc place) x y found at =
    let rest = stands_joined f xs place x y found at in
    record { before = f z ++ rest.before; behind = rest.behind; is = ap (λ list. f z ++ list) rest.is ∙ sym (append_assoc (f z) rest.before (y ∷ rest.behind)) }
