-- A function on numbers that is changed at one number, or over a range.
use Rattle.std.proofs.Common.{◌≡◌, ◌≢◌, ◌⊎◌, ℕ, ◌<◌, ◌≤◌, Bool, true, false, refl, sym, ◌∙◌, ⊎_elim, true≢false}
use native.Mathlib.Decide.{ℕ_discrete}
use Rattle.hist_journal.specs.Meaning.{is_in}
use Rattle.version_room.proofs.EntryLemmas.{inside, within}

abbrev choose : {P : Type 0} → Dec P → ℕ → ℕ → ℕ
choose (yes _) a b = a
choose (no _) a b = b

pub put : (ℕ → ℕ) → ℕ → ℕ → ℕ → ℕ
put f i a j = choose (ℕ_discrete j i) a (f j)

chosen : (f : ℕ → ℕ) (i a : ℕ) (d : Dec (i ≡ i)) → choose d a (f i) ≡ a
chosen f i a (yes e) = refl
chosen f i a (no n) = absurd (n refl)

unchosen : (f : ℕ → ℕ) (i a j : ℕ) → j ≢ i → (d : Dec (j ≡ i)) → choose d a (f j) ≡ f j
unchosen f i a j apart (yes e) = absurd (apart e)
unchosen f i a j apart (no n) = refl

pub put_here : (f : ℕ → ℕ) (i a : ℕ) → put f i a i ≡ a
unfolding put
put_here f i a = chosen f i a (ℕ_discrete i i)

pub put_else : (f : ℕ → ℕ) (i a j : ℕ) → j ≢ i → put f i a j ≡ f j
unfolding put
put_else f i a j apart = unchosen f i a j apart (ℕ_discrete j i)

abbrev if_in : Bool → ℕ → ℕ → ℕ
if_in true a b = a
if_in false a b = b

pub cover : (ℕ → ℕ) → ℕ → ℕ → ℕ → ℕ → ℕ
cover f low high a j = if_in (is_in low high j) a (f j)

covered : (f : ℕ → ℕ) (low high a j : ℕ) → f j ≡ a ⊎ ((low ≤ j) × (j < high)) → (b : Bool) → is_in low high j ≡ b → if_in b a (f j) ≡ a
covered f low high a j h true e = refl
covered f low high a j h false e = ⊎_elim (λ x. x) (λ r. absurd (true≢false (sym (inside low high j r.0 r.1) ∙ e))) h

uncovered : (f : ℕ → ℕ) (low high a j : ℕ) → ((low ≤ j) × (j < high) → ⊥) → (b : Bool) → is_in low high j ≡ b → if_in b a (f j) ≡ f j
uncovered f low high a j off true e = absurd (off (within low high j e))
uncovered f low high a j off false e = refl

-- in the range, and wherever it was a before
pub cover_in : (f : ℕ → ℕ) (low high a j : ℕ) → f j ≡ a ⊎ ((low ≤ j) × (j < high)) → cover f low high a j ≡ a
unfolding cover
cover_in f low high a j h = covered f low high a j h (is_in low high j) refl

pub cover_out : (f : ℕ → ℕ) (low high a j : ℕ) → ((low ≤ j) × (j < high) → ⊥) → cover f low high a j ≡ f j
unfolding cover
cover_out f low high a j off = uncovered f low high a j off (is_in low high j) refl
