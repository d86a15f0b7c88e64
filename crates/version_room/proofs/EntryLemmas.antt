-- Lists of entries: their raises, and the entries of some clients.
use Rattle.std.proofs.Common.{◌≡◌, ◌≢◌, ◌⊎◌, ℕ, suc, ◌+◌, ◌<◌, ◌≤◌, Bool, true, false, ◌&&◌, leb, ltb, List, [], ◌∷◌, ◌++◌, All, length, refl, sym, ap, ◌∙◌, ⊎_elim, inl, inr, arith, true≢false, leb-true, lt-ltb, le-leb, ltb-true}
use Rattle.std.proofs.lemmas.List.Elements.{All-head, All-tail}
use mathlib.Core.List.{IsPrefix}
use Rattle.hist_journal.specs.Meaning.{Meaning, raises, of_clients, count, add, is_in}

both_true : (x y : Bool) → x ≡ true → y ≡ true → x && y ≡ true
both_true true y e f = f
both_true false y e f = absurd (true≢false (sym e))

each_true : (x y : Bool) → x && y ≡ true → (x ≡ true) × (y ≡ true)
each_true true y f = (refl, f)
each_true false y f = absurd (true≢false (sym f))

by_test : (b : Bool) → (b ≡ true) ⊎ (b ≡ false)
by_test true = inl refl
by_test false = inr refl

pub inside : (low high n : ℕ) → low ≤ n → n < high → is_in low high n ≡ true
inside low high n a b = both_true (leb low n) (ltb n high) (le-leb low n a) (lt-ltb n high b)

pub within : (low high n : ℕ) → is_in low high n ≡ true → (low ≤ n) × (n < high)
within low high n e = let h = each_true (leb low n) (ltb n high) e in (leb-true low n h.0, ltb-true n high h.1)

pub outside : (low high n : ℕ) → ((low ≤ n) × (n < high) → ⊥) → is_in low high n ≡ false
outside low high n off = ⊎_elim (λ e. absurd (off (within low high n e))) (λ e. e) (by_test (is_in low high n))

module _ {S D E H : Type 0} (m : Meaning S D E H) where
  counted : (b : Bool) (n k l : ℕ) → n ≡ k + l → count m b n ≡ count m b k + l
  counted true n k l e = omega arith
  counted false n k l e = e

  pub raises-append : (xs ys : List E) → raises m (xs ++ ys) ≡ raises m xs + raises m ys
  raises-append [] ys = omega arith
  raises-append (x ∷ xs) ys = counted (m.raising x) (raises m (xs ++ ys)) (raises m xs) (raises m ys) (raises-append xs ys)

  pub raises-prefix : (xs ys : List E) → IsPrefix xs ys → raises m xs ≤ raises m ys
  raises-prefix xs ys p = let e : raises m ys ≡ raises m xs + raises m p.0 = ap (raises m) (sym p.1) ∙ raises-append xs p.0 in omega arith

  counted_le : (b : Bool) (n k : ℕ) → n ≤ k → count m b n ≤ suc k
  counted_le true n k h = omega arith
  counted_le false n k h = omega arith

  pub raises-le-length : (xs : List E) → raises m xs ≤ length xs
  raises-le-length [] = omega arith
  raises-le-length (x ∷ xs) = counted_le (m.raising x) (raises m xs) (length xs) (raises-le-length xs)

  added_first : (x : E) (b : Bool) (n k l : List E) → n ≡ k ++ l → add m b x n ≡ add m b x k ++ l
  added_first x true n k l e = ap (λ (z : List E). x ∷ z) e
  added_first x false n k l e = e

  pub of_clients-append : (low high : ℕ) (xs ys : List E) → of_clients m low high (xs ++ ys) ≡ of_clients m low high xs ++ of_clients m low high ys
  of_clients-append low high [] ys = refl
  of_clients-append low high (x ∷ xs) ys = added_first x (is_in low high (m.client x)) (of_clients m low high (xs ++ ys)) (of_clients m low high xs) (of_clients m low high ys) (of_clients-append low high xs ys)

  added_true : (x : E) (b : Bool) → b ≡ true → (k l : List E) → k ≡ l → add m b x k ≡ x ∷ l
  added_true x true t k l e = ap (λ (z : List E). x ∷ z) e
  added_true x false t k l e = absurd (true≢false (sym t))

  added_false : (x : E) (b : Bool) → b ≡ false → (k l : List E) → k ≡ l → add m b x k ≡ l
  added_false x true t k l e = absurd (true≢false t)
  added_false x false t k l e = e

  abbrev OfThese : ℕ → ℕ → E → Type 0
  OfThese low high e = (low ≤ m.client e) × (m.client e < high)

  pub of_clients-all : (low high : ℕ) (xs : List E) → All (OfThese low high) xs → of_clients m low high xs ≡ xs
  of_clients-all low high [] h = refl
  of_clients-all low high (x ∷ xs) h =
      let i = All-head (OfThese low high) x xs h in
      added_true x (is_in low high (m.client x)) (inside low high (m.client x) i.0 i.1) (of_clients m low high xs) xs (of_clients-all low high xs (All-tail (OfThese low high) x xs h))

  abbrev OfNone : ℕ → ℕ → E → Type 0
  OfNone low high e = OfThese low high e → ⊥

  pub of_clients-none : (low high : ℕ) (xs : List E) → All (OfNone low high) xs → of_clients m low high xs ≡ []
  of_clients-none low high [] h = refl
  of_clients-none low high (x ∷ xs) h =
      added_false x (is_in low high (m.client x)) (outside low high (m.client x) (All-head (OfNone low high) x xs h)) (of_clients m low high xs) [] (of_clients-none low high xs (All-tail (OfNone low high) x xs h))

  abbrev IsNotOf : ℕ → E → Type 0
  IsNotOf low e = m.client e ≢ low

  without_one : (low high : ℕ) (x : E) (xs : List E) (b c : Bool) → (All (IsNotOf low) (of_clients m low high xs) → of_clients m (low + 1) high xs ≡ of_clients m low high xs)
      → is_in low high (m.client x) ≡ b → is_in (low + 1) high (m.client x) ≡ c → All (IsNotOf low) (add m b x (of_clients m low high xs)) → add m c x (of_clients m (low + 1) high xs) ≡ add m b x (of_clients m low high xs)
  without_one low high x xs true true go e f n = ap (λ (z : List E). x ∷ z) (go (All-tail (IsNotOf low) x (of_clients m low high xs) n))
  without_one low high x xs true false go e f n = absurd (let i = within low high (m.client x) e in let c = All-head (IsNotOf low) x (of_clients m low high xs) n in true≢false (sym (inside (low + 1) high (m.client x) (omega arith) i.1) ∙ f))
  without_one low high x xs false true go e f n = absurd (let i = within (low + 1) high (m.client x) f in true≢false (sym (inside low high (m.client x) (omega arith) i.1) ∙ e))
  without_one low high x xs false false go e f n = go n

  -- where no entry of these clients is of the least one, it can be left out
  pub of_clients-without : (low high : ℕ) (xs : List E) → All (IsNotOf low) (of_clients m low high xs) → of_clients m (low + 1) high xs ≡ of_clients m low high xs
  of_clients-without low high [] h = refl
  of_clients-without low high (x ∷ xs) h = without_one low high x xs (is_in low high (m.client x)) (is_in (low + 1) high (m.client x)) (of_clients-without low high xs) refl refl h

  least_one : (low high : ℕ) (x : E) (xs : List E) → low < high → (b c : Bool) → (All (IsNotOf low) (of_clients m low high xs) → of_clients m low (low + 1) xs ≡ [])
      → is_in low high (m.client x) ≡ b → is_in low (low + 1) (m.client x) ≡ c → All (IsNotOf low) (add m b x (of_clients m low high xs)) → add m c x (of_clients m low (low + 1) xs) ≡ []
  least_one low high x xs lt true true go e f n = absurd (let i = within low (low + 1) (m.client x) f in All-head (IsNotOf low) x (of_clients m low high xs) n (omega arith))
  least_one low high x xs lt false true go e f n = absurd (let i = within low (low + 1) (m.client x) f in true≢false (sym (inside low high (m.client x) i.0 (omega arith)) ∙ e))
  least_one low high x xs lt true false go e f n = go (All-tail (IsNotOf low) x (of_clients m low high xs) n)
  least_one low high x xs lt false false go e f n = go n

  -- and has none of its own
  pub of_clients-least : (low high : ℕ) (xs : List E) → low < high → All (IsNotOf low) (of_clients m low high xs) → of_clients m low (low + 1) xs ≡ []
  of_clients-least low high [] lt h = refl
  of_clients-least low high (x ∷ xs) lt h = least_one low high x xs lt (is_in low high (m.client x)) (is_in low (low + 1) (m.client x)) (of_clients-least low high xs lt) refl refl h
