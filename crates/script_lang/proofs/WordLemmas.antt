-- What stands behind a line's first word, by how many words there are.
use Rattle.std.proofs.Common.{◌≡◌, ◌-◌, ◌<◌, ◌≤◌, ℕ, List, [], ◌∷◌, length, get_or, take, drop, sub-one, Bor, refl, arith}
use Rattle.std.proofs.Math.Seq.{take-length}
use Rattle.script_words.specs.Words.{texts_at}

-- where there is no word
abbrev pub no_word : Bor (List ℕ)
no_word = record { ref_ptr = (0, 0); now = [] }

pub one_text : (words : List (Bor (List ℕ))) → 1 ≤ length words → length words < 2 → texts_at words ≡ (get_or words 0 no_word).now ∷ []
one_text [] least most = absurd (omega arith)
one_text (word ∷ []) least most = refl
one_text (word ∷ other ∷ more) least most = absurd (omega arith)

pub two_texts : (words : List (Bor (List ℕ))) → 2 ≤ length words → length words < 3 → texts_at words ≡ (get_or words 0 no_word).now ∷ (get_or words 1 no_word).now ∷ []
two_texts [] least most = absurd (omega arith)
two_texts (word ∷ []) least most = absurd (omega arith)
two_texts (word ∷ other ∷ []) least most = refl
two_texts (word ∷ other ∷ third ∷ more) least most = absurd (omega arith)

pub three_texts : (words : List (Bor (List ℕ))) → 3 ≤ length words → length words < 4 → texts_at words ≡ (get_or words 0 no_word).now ∷ (get_or words 1 no_word).now ∷ (get_or words 2 no_word).now ∷ []
three_texts [] least most = absurd (omega arith)
three_texts (word ∷ []) least most = absurd (omega arith)
three_texts (word ∷ other ∷ []) least most = absurd (omega arith)
three_texts (word ∷ other ∷ third ∷ []) least most = refl
three_texts (word ∷ other ∷ third ∷ fourth ∷ more) least most = absurd (omega arith)

-- a first word, and the words behind it
pub first_text : (words : List (Bor (List ℕ))) → 1 ≤ length words → texts_at words ≡ (get_or words 0 no_word).now ∷ texts_at (take (length words - 1) (drop 1 words))
first_text [] least = absurd (omega arith)
first_text (word ∷ words) least =
    let rest : take (length (word ∷ words) - 1) (drop 1 (word ∷ words)) ≡ words = rw sub-one (take-length words) in
    rw rest refl
