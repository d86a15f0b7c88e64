-- For callers: which passes have all client numbers.
use Rattle.std.proofs.Common.{◌≡◌, ◌⊎◌, ℕ, zero, suc, ◌+◌, ◌<◌, ◌≤◌, leb, leb-true, leb-false, Bool, true, false, List, [], ◌∷◌, ◌++◌, Any, length, refl, inl, inr, arith}
use Rattle.version_room.specs.declared.view.Known.{Known}
use Rattle.version_room.specs.Closing.{HaveAllClients, HaveClientsFrom}
use Rattle.version_room.specs.Known.{HasClient, all_clients}

module _ {E H : Type 0} where
  -- a pass that has the number after the last joins those that have one each
  pub clients_push : (n : ℕ) (ks : List (Known E H)) (k : Known E H) → HaveClientsFrom n ks → k.low ≡ n + length ks → k.high ≡ n + length ks + 1 → HaveClientsFrom n (ks ++ k ∷ [])
  clients_push n [] k h low high = (omega arith, omega arith, tt)
  clients_push n (x ∷ xs) k h low high = (h.0, h.1, clients_push (n + 1) xs k h.2 (omega arith) (omega arith))

  abbrev OneHas : ℕ → List (Known E H) → Type 0
  OneHas i ks = Any (λ other. HasClient other i) ks

  later : (x : Known E H) (xs : List (Known E H)) (i : ℕ) → OneHas i xs → OneHas i (x ∷ xs)
  later x xs i a = let lt : a.0 < length xs = a.2 in (suc a.0, a.1, omega arith, a.3, a.4)

  first : (x : Known E H) (xs : List (Known E H)) (i : ℕ) → HasClient x i → OneHas i (x ∷ xs)
  first x xs i has = (zero, x, omega arith, refl, has)

  by_place : (n i : ℕ) (x : Known E H) (xs : List (Known E H)) → x.low ≡ n → x.high ≡ n + 1 → n ≤ i → (n + 1 ≤ i → OneHas i xs) → (b : Bool) → leb i n ≡ b → OneHas i (x ∷ xs)
  by_place n i x xs low high from rest true e = let le = leb-true i n e in first x xs i (omega arith, omega arith)
  by_place n i x xs low high from rest false e = let gt = leb-false i n e in later x xs i (rest (omega arith))

  -- one of them has each number up to the last
  pub one_has : (n : ℕ) (ks : List (Known E H)) → HaveClientsFrom n ks → (i : ℕ) → n ≤ i → i < n + length ks → OneHas i ks
  one_has n [] h i from below = absurd (omega arith)
  one_has n (x ∷ xs) h i from below = by_place n i x xs h.0 h.1 from (λ above. one_has (n + 1) xs h.2 i above (omega arith)) (leb i n) refl

  here_or_there : (k : Known E H) (others : List (Known E H)) (n : ℕ) → k.high ≡ all_clients → (n < k.low → OneHas n others) → n < all_clients → (b : Bool) → leb k.low n ≡ b → HasClient k n ⊎ OneHas n others
  here_or_there k others n most below small true e = let le = leb-true k.low n e in inl (le, omega arith)
  here_or_there k others n most below small false e = let gt = leb-false k.low n e in inr (below (omega arith))

  -- A pass has all numbers from some number on, and for each below it there is another pass
  pub all_with_others : (k : Known E H) (others : List (Known E H)) → k.high ≡ all_clients → ((i : ℕ) → i < k.low → OneHas i others) → HaveAllClients k others
  all_with_others k others most below n small = here_or_there k others n most (below n) small (leb k.low n) refl

  -- however many passes have one number each, from 0 on, and one pass all others
  pub all_in_order : (k : Known E H) (others : List (Known E H)) → k.high ≡ all_clients → k.low ≡ length others → HaveClientsFrom 0 others → HaveAllClients k others
  all_in_order k others most low each = all_with_others k others most (λ i lt. one_has 0 others each i (omega arith) (omega arith))
