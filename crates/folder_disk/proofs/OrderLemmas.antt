-- Planned failures in the order in which they are due.
use Rattle.std.proofs.Common.{◌≡◌, ◌≤◌, ◌<◌, true, false, List, [], ◌∷◌, ℕ, refl, sym, ap, arith, nat_le, nat_lt, cond, length, ◌∙◌, ◌++◌, suc, take, drop}
use Rattle.std.proofs.Math.Seq.{take-append_seam}
use Rattle.std.specs.List.{All, sum_by}
use Rattle.std.specs.List.Sorted.{IsPermutation, IsNonDecreasingBy}
use Rattle.std.proofs.lemmas.Bool.Decides.{nat_tests}
use Rattle.std.proofs.lemmas.List.Elements.{All-nil, All-cons, All-head, All-tail, All-weaker}
use Rattle.std.proofs.lemmas.List.Sorted.{IsPermutation-refl, IsPermutation-cons, IsPermutation-swap, IsPermutation-trans, IsNonDecreasingBy-drop, All-permutation, length_permutation, sum_by-IsPermutation}
use Rattle.std.proofs.lemmas.List.Sums.{sum_by-cons}
use Rattle.folder_disk.specs.declared.call.FolderCall.{FolderCall}
use Rattle.folder_disk.specs.declared.call.FolderCall.TheVariants.{ReadMain, Create, Append, SyncScratch, Rename, SyncFolder}
use Rattle.folder_disk.specs.declared.call.Planned.{Planned}
use Rattle.folder_disk.specs.Due.{kind_of, rank, placed, in_order}
use Rattle.folder_disk.proofs.PlanLemmas.{same_kind}

pub kind_bound : (call : FolderCall) → kind_of call < 6
kind_bound ReadMain = omega arith
kind_bound Create = omega arith
kind_bound Append = omega arith
kind_bound SyncScratch = omega arith
kind_bound Rename = omega arith
kind_bound SyncFolder = omega arith

abbrev planned : FolderCall → ℕ → Planned
planned call number = record { call = call; number = number }

same_parts : (p q : Planned) → p.call ≡ q.call → p.number ≡ q.number → p ≡ q
same_parts p q calls numbers = ap (λ (call : FolderCall). planned call p.number) calls ∙ ap (planned q.call) numbers

same_rank : (p q : Planned) → rank p ≡ rank q → p ≡ q
same_rank p q e =
    let few = kind_bound p.call in
    let few_too = kind_bound q.call in
    let kinds : kind_of p.call ≡ kind_of q.call = omega arith in
    let numbers : p.number ≡ q.number = omega arith in
    same_parts p q (same_kind p.call q.call kinds) numbers

-- the same failures, in another order
front_swap : (p q : Planned) (xs : List Planned) → IsPermutation (p ∷ q ∷ xs) (q ∷ p ∷ xs)
front_swap p q xs = IsPermutation-swap (p ∷ q ∷ xs) (q ∷ p ∷ xs) 0 1 (omega arith) (omega arith) refl

placed_permutation : (p : Planned) (xs : List Planned) → IsPermutation (p ∷ xs) (placed p xs)
unfolding placed
placed_permutation p [] = IsPermutation-refl (p ∷ [])
placed_permutation p (q ∷ xs) = elim (nat_le (rank p) (rank q)) as (λ b. IsPermutation (p ∷ q ∷ xs) (cond b (p ∷ q ∷ xs) (q ∷ placed p xs))) [
  | true ↦ IsPermutation-refl (p ∷ q ∷ xs)
  | false ↦ IsPermutation-trans _ _ _ (front_swap p q xs) (IsPermutation-cons q _ _ (placed_permutation p xs))
]

pub permutation_in_order : (xs : List Planned) → IsPermutation xs (in_order xs)
unfolding in_order
permutation_in_order [] = IsPermutation-refl []
permutation_in_order (p ∷ xs) = IsPermutation-trans _ _ _ (IsPermutation-cons p _ _ (permutation_in_order xs)) (placed_permutation p (in_order xs))

pub length_in_order : (xs : List Planned) → length (in_order xs) ≡ length xs
length_in_order xs = length_permutation xs (in_order xs) (permutation_in_order xs)

pub All-in_order : (P : Planned → Type 0) (xs : List Planned) → All P xs → All P (in_order xs)
All-in_order P xs h = All-permutation P xs (in_order xs) (permutation_in_order xs) h

-- each is of at least this rank
abbrev AreFrom : ℕ → List Planned → Type 0
AreFrom low xs = All (λ q. low ≤ rank q) xs

-- none is of a lower rank than one before it
Rises : List Planned → Type 0
Rises [] = Unit {0}
Rises (p ∷ xs) = AreFrom (rank p) xs × Rises xs

all_placed : (P : Planned → Type 0) (p : Planned) (xs : List Planned) → P p → All P xs → All P (placed p xs)
all_placed P p xs here later = All-permutation P (p ∷ xs) (placed p xs) (placed_permutation p xs) (All-cons P p xs here later)

rises_placed : (p : Planned) (xs : List Planned) → Rises xs → Rises (placed p xs)
unfolding placed Rises
rises_placed p [] h = (All-nil _, tt)
rises_placed p (q ∷ xs) h = elim (nat_le (rank p) (rank q)) as (λ b. nat_le (rank p) (rank q) ≡ b → Rises (cond b (p ∷ q ∷ xs) (q ∷ placed p xs))) [
  | true ↦ λ e. (let low : rank p ≤ rank q = grind (arith, nat_tests) in
      (All-cons (λ r. rank p ≤ rank r) q xs low (All-weaker (λ r. rank q ≤ rank r) (λ r. rank p ≤ rank r) (λ r higher. omega arith) xs h.0), h))
  | false ↦ λ e. (let low : rank q ≤ rank p = grind (arith, nat_tests) in
      (all_placed (λ r. rank q ≤ rank r) p xs low h.0, rises_placed p xs h.1))
] refl

rises_in_order : (xs : List Planned) → Rises (in_order xs)
unfolding in_order Rises
rises_in_order [] = tt
rises_in_order (p ∷ xs) = rises_placed p (in_order xs) (rises_in_order xs)

rises_sorted : (xs : List Planned) → IsNonDecreasingBy rank xs → Rises xs
unfolding Rises
rises_sorted [] h = tt
rises_sorted (p ∷ xs) h = ((λ k d within. h 0 (suc k) d (omega arith) (omega arith)), rises_sorted xs (IsNonDecreasingBy-drop rank 1 (p ∷ xs) h))

abbrev is_below : ℕ → Planned → ℕ
is_below low p = cond (nat_lt (rank p) low) 1 0

none_below : (low : ℕ) (xs : List Planned) → AreFrom low xs → sum_by (is_below low) xs ≡ 0
none_below low [] h = refl
none_below low (p ∷ xs) h =
    let here = All-head (λ q. low ≤ rank q) p xs h in
    let rest = none_below low xs (All-tail (λ q. low ≤ rank q) p xs h) in
    let e = sum_by-cons (is_below low) p xs in grind (arith, nat_tests)

-- the first of a list that rises is of no higher rank than one of the same failures
first_least : (p q : Planned) (xs ys : List Planned) → Rises (p ∷ xs) → sum_by (is_below (rank p)) (q ∷ ys) ≡ sum_by (is_below (rank p)) (p ∷ xs) → rank p ≤ rank q
unfolding Rises
first_least p q xs ys h alike =
    let none = none_below (rank p) (p ∷ xs) (All-cons (λ r. rank p ≤ rank r) p xs (omega arith) h.0) in
    let e = sum_by-cons (is_below (rank p)) q ys in grind (arith, nat_tests)

-- two lists of the same failures that rise are the same
same_rising : (xs ys : List Planned) → Rises xs → Rises ys → ((f : Planned → ℕ) → sum_by f ys ≡ sum_by f xs) → xs ≡ ys
unfolding Rises
same_rising [] [] h k alike = refl
same_rising [] (q ∷ ys) h k alike = absurd (omega (arith, alike (λ _. 1), sum_by-cons (λ _. 1) q ys))
same_rising (p ∷ xs) [] h k alike = absurd (omega (arith, alike (λ _. 1), sum_by-cons (λ _. 1) p xs))
same_rising (p ∷ xs) (q ∷ ys) h k alike =
    let low = first_least p q xs ys h (alike _) in
    let low_too = first_least q p ys xs k (sym (alike _)) in
    let first : p ≡ q = same_rank p q (omega arith) in
    let rest = same_rising xs ys h.1 k.1 (λ f. omega (arith, alike f, sum_by-cons f p xs, sum_by-cons f q ys, ap f first)) in cc

-- a sort puts them in order
pub sorted_in_order : (xs ys : List Planned) → IsPermutation xs ys → IsNonDecreasingBy rank ys → ys ≡ in_order xs
sorted_in_order xs ys same sorted = same_rising ys (in_order xs) (rises_sorted ys sorted) (rises_in_order xs)
    (λ f. sum_by-IsPermutation f xs (in_order xs) (permutation_in_order xs) ∙ sym (sum_by-IsPermutation f xs ys same))

-- a list that was written back whole
pub written_back : {X : Type 0} (n : ℕ) (xs ys : List X) → n ≡ length xs → take n (xs ++ drop (length xs) ys) ≡ xs
written_back n xs ys e = rw e (take-append_seam xs (drop (length xs) ys))
