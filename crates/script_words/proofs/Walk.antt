-- A walk over the bytes of a word, from place to place.
use Rattle.std.proofs.Common.{◌≡◌, ◌≢◌, ℕ, List, [], ◌∷◌, ◌++◌, true, refl, subst}
use Rattle.script_words.specs.Place.{after, ends_at_space}
use Rattle.script_words.specs.declared.place.Place.{Place}

-- the place behind these bytes
abbrev pub walk : Place → List ℕ → Place
walk place [] = place
walk place (byte ∷ rest) = walk (after place byte) rest

-- no space among the bytes ends the word
abbrev pub Stays : Place → List ℕ → Type 0
Stays place [] = Unit {0}
Stays place (byte ∷ rest) = (ends_at_space place ≡ true → byte ≢ 32) × Stays (after place byte) rest

pub walk-append : (place : Place) (front rest : List ℕ) → walk place (front ++ rest) ≡ walk (walk place front) rest
walk-append place [] rest = refl
walk-append place (byte ∷ front) rest = walk-append (after place byte) front rest

pub Stays-append : (place : Place) (front rest : List ℕ) → Stays place front → Stays (walk place front) rest → Stays place (front ++ rest)
Stays-append place [] rest first then = then
Stays-append place (byte ∷ front) rest first then = (first.0, Stays-append (after place byte) front rest first.1 then)

-- two words that a space may follow, before one text, are the same
pub one_end : (place : Place) (a b ra rb : List ℕ) → Stays place a → ends_at_space (walk place a) ≡ true → Stays place b → ends_at_space (walk place b) ≡ true
    → a ++ 32 ∷ ra ≡ b ++ 32 ∷ rb → (a ≡ b) × (ra ≡ rb)
one_end place [] [] ra rb stays ends also too e = (refl, cc)
one_end place [] (byte ∷ b) ra rb stays ends also too e = absurd (also.0 ends cc)
one_end place (byte ∷ a) [] ra rb stays ends also too e = absurd (stays.0 too cc)
one_end place (byte ∷ a) (other ∷ b) ra rb stays ends also too e =
    let heads : other ≡ byte = cc in
    let there : Stays (after place byte) b = subst (λ h. Stays (after place h) b) heads also.1 in
    let end : ends_at_space (walk (after place byte) b) ≡ true = subst (λ h. ends_at_space (walk (after place h) b) ≡ true) heads too in
    let rest = one_end (after place byte) a b ra rb stays.1 ends there end cc in
    let fronts : a ≡ b = rest.0 in
    (cc, rest.1)

-- and no such word and a space are the front of a word
pub no_longer : (place : Place) (a b ra : List ℕ) → Stays place a → ends_at_space (walk place a) ≡ true → Stays place b → a ++ 32 ∷ ra ≡ b → ⊥
no_longer place [] [] ra stays ends also e = cc
no_longer place [] (byte ∷ b) ra stays ends also e = also.0 ends cc
no_longer place (byte ∷ a) [] ra stays ends also e = cc
no_longer place (byte ∷ a) (other ∷ b) ra stays ends also e =
    let heads : other ≡ byte = cc in
    no_longer (after place byte) a b ra stays.1 ends (subst (λ h. Stays (after place h) b) heads also.1) cc
