-- Words that are parted at the first `--`.
use Rattle.std.proofs.Common.{◌≡◌, ◌≢◌, ◌∙◌, ◌<◌, ◌≤◌, ◌-◌, ◌+◌, ℕ, zero, suc, All, List, [], ◌∷◌, ◌++◌, String, Global, string_bytes, codes, length, take, drop, get_or, inl, inr, refl, ap, sym, subst, arith, add-one}
use Rattle.std.proofs.lemmas.List.{take_all, length-drop}
use Rattle.command_words.specs.Command.{texts}
use Rattle.command_words.specs.Words.{IsNoOption, IsParted}

-- the texts round the word at a place
pub texts_round : (words : List (String Global)) (place : ℕ) (word : String Global) → place < length words
    → texts words ≡ texts (take place words) ++ string_bytes (get_or words place word) ∷ texts (drop (suc place) words)
texts_round [] place word within = absurd (omega arith)
texts_round (x ∷ xs) zero word within = refl
texts_round (x ∷ xs) (suc place) word within = ap (λ l. string_bytes x ∷ l) (texts_round xs place word (omega arith))

-- nothing is parted into nothing
pub parted_nothing : (before after : List (List ℕ)) → IsParted [] before after → before ++ after ≡ []
parted_nothing [] after parted = elim parted.parts [ inl e ↦ cc | inr e ↦ e.1 ]
parted_nothing (b ∷ bs) after parted = elim parted.parts [ inl e ↦ cc | inr e ↦ cc (e.0) ]

-- where no word stands before it, `--` is here
dashes_here : (word : List ℕ) (words after : List (List ℕ)) → IsParted (word ∷ words) [] after → (word ≡ codes "--") × (words ≡ after)
dashes_here word words after parted = elim parted.parts [ inl e ↦ (cc, cc) | inr e ↦ cc (e.0) ]

-- else a word that is no option
word_here : (word : List ℕ) (words : List (List ℕ)) (b : List ℕ) (bs after : List (List ℕ)) → IsParted (word ∷ words) (b ∷ bs) after
    → (word ≡ b) × IsNoOption b × IsParted words bs after
word_here word words b bs after parted =
    let rest : All IsNoOption bs = λ k d within. parted.no_options (suc k) d (omega arith) in
    elim parted.parts [
      | inl e ↦ (cc, parted.no_options 0 b (omega arith), record { no_options = rest; parts = inl cc })
      | inr e ↦ (cc (e.0), parted.no_options 0 b (omega arith), record { no_options = rest; parts = inr (cc (e.0), e.1) })
    ]

-- a word before `--` that begins with `-` refuses the words
pub refuses : (front : List (List ℕ)) (word : List ℕ) (back before after : List (List ℕ)) → All IsNoOption front → get_or word 0 0 ≡ 45 → word ≢ codes "--"
    → IsParted (front ++ word ∷ back) before after → ⊥
refuses [] word back [] after plain dash other parted = other (dashes_here word back after parted).0
refuses [] word back (b ∷ bs) after plain dash other parted =
    let here = word_here word back b bs after parted in
    here.1 (ap (λ w. get_or w 0 0) (sym here.0) ∙ dash)
refuses (f ∷ fs) word back [] after plain dash other parted =
    plain 0 f (omega arith) (ap (λ w. get_or w 0 0) (dashes_here f (fs ++ word ∷ back) after parted).0)
refuses (f ∷ fs) word back (b ∷ bs) after plain dash other parted =
    refuses fs word back bs after (λ k d within. plain (suc k) d (omega arith)) dash other (word_here f (fs ++ word ∷ back) b bs after parted).2

-- words are given in one way at most
pub given_one : (words before after front back : List (List ℕ)) → IsParted words before after → IsParted words front back → before ++ after ≡ front ++ back
given_one [] before after front back one other = parted_nothing before after one ∙ sym (parted_nothing front back other)
given_one (word ∷ words) [] after [] back one other =
    sym (dashes_here word words after one).1 ∙ (dashes_here word words back other).1
given_one (word ∷ words) [] after (f ∷ fs) back one other =
    let here = word_here word words f fs back other in
    absurd (here.1 (ap (λ w. get_or w 0 0) (sym here.0 ∙ (dashes_here word words after one).0)))
given_one (word ∷ words) (b ∷ bs) after [] back one other =
    let here = word_here word words b bs after one in
    absurd (here.1 (ap (λ w. get_or w 0 0) (sym here.0 ∙ (dashes_here word words back other).0)))
given_one (word ∷ words) (b ∷ bs) after (f ∷ fs) back one other =
    let here = word_here word words b bs after one in
    let there = word_here word words f fs back other in
    let rest = given_one words bs after fs back here.2 there.2 in
    let heads : b ≡ f = sym here.0 ∙ there.0 in
    cc (rest, heads)

-- ---- at a place of a slice

-- the words behind a place
rest_behind : (words : List (String Global)) (place : ℕ) → take (length words - (place + 1)) (drop (place + 1) words) ≡ drop (suc place) words
rest_behind words place = rw add-one (take_all (length words - suc place) (drop (suc place) words) (rw length-drop (omega arith)))

pub parted_at : (words : List (String Global)) (place : ℕ) (word : String Global) → place < length words → word ≡ get_or words place word
    → string_bytes word ≡ codes "--" → All IsNoOption (texts (take place words))
    → IsParted (texts words) (texts (take place words)) (texts (take (length words - (place + 1)) (drop (place + 1) words)))
parted_at words place word within at dashes plain = record {
  no_options = plain;
  parts = inl (texts_round words place word within
      ∙ ap (λ (w : List ℕ). texts (take place words) ++ w ∷ texts (drop (suc place) words)) (ap string_bytes (sym at) ∙ dashes)
      ∙ ap (λ (l : List (String Global)). texts (take place words) ++ codes "--" ∷ texts l) (sym (rest_behind words place)));
}

pub refused_at : (words : List (String Global)) (place : ℕ) (word : String Global) → place < length words → word ≡ get_or words place word
    → get_or (string_bytes word) 0 0 ≡ 45 → string_bytes word ≢ codes "--" → All IsNoOption (texts (take place words))
    → (before after : List (List ℕ)) → IsParted (texts words) before after → ⊥
refused_at words place word within at dash other plain before after parted =
    let same : string_bytes word ≡ string_bytes (get_or words place word) = ap string_bytes at in
    refuses (texts (take place words)) (string_bytes (get_or words place word)) (texts (drop (suc place) words)) before after plain
    (ap (λ (w : List ℕ). get_or w 0 0) (sym same) ∙ dash) (λ e. other (same ∙ e))
    (subst (λ (l : List (List ℕ)). IsParted l before after) (texts_round words place word within) parted)

pub parted_whole : (words : List (String Global)) (place : ℕ) → length words ≤ place → All IsNoOption (texts (take place words)) → IsParted (texts words) (texts words) []
parted_whole words place past plain = record {
  no_options = subst (λ (l : List (String Global)). All IsNoOption (texts l)) (take_all place words past) plain;
  parts = inr (refl, refl);
}

-- the words behind the first
abbrev pub behind_first : List (String Global) → List (String Global)
behind_first words = take (length words - 1) (drop 1 words)

pub first_and_rest : (words : List (String Global)) (name : String Global) → 1 ≤ length words → name ≡ get_or words 0 name
    → texts words ≡ string_bytes name ∷ texts (behind_first words)
first_and_rest words name at_least at =
    texts_round words 0 name (omega arith)
    ∙ ap (λ (w : List ℕ). w ∷ texts (drop 1 words)) (ap string_bytes (sym at))
    ∙ ap (λ (l : List (String Global)). string_bytes name ∷ texts l) (sym (rest_behind words 0))
