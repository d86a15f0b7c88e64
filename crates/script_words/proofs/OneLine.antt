-- A line has one list of words.
use Rattle.std.proofs.Common.{◌≡◌, ◌≢◌, ◌∙◌, ◌⊎◌, inl, inr, ℕ, List, [], ◌∷◌, ◌++◌, All, true, refl, sym, ap, subst, append_assoc, append-nil}
use Rattle.std.specs.List.{join_with_byte}
use Rattle.std.proofs.lemmas.Bool.Decides.{eqb_tells}
use Rattle.std.proofs.lemmas.List.Elements.{All-nil, All-cons, All-head, All-tail}
use Rattle.script_words.specs.Place.{ends_at_space}
use Rattle.script_words.specs.Words.{AreWords, IsWhole, IsUnclosed}
use Rattle.script_words.specs.declared.place.Place.TheVariants.{Start}
use Rattle.script_words.proofs.Walk.{walk, Stays, Stays-append, one_end, no_longer}
use Rattle.script_words.proofs.WalkIn.{whole_ends}
use Rattle.script_words.proofs.WalkOut.{whole_word, unclosed_word, unclosed_stays, within_or_ends}

-- the words behind a whole one
abbrev Ending : List ℕ → Type 0
Ending word = IsWhole word ⊎ IsUnclosed word

last_stays : (word : List ℕ) → Ending word → Stays Start word
last_stays word (inl whole) = (whole_ends word whole).stays
last_stays word (inr unclosed) = unclosed_stays word unclosed

-- one more word in front
pub join_cons : (word : List ℕ) (others : List (List ℕ)) (last : List ℕ)
    → join_with_byte 32 (word ∷ (others ++ last ∷ [])) ≡ word ++ 32 ∷ join_with_byte 32 (others ++ last ∷ [])
join_cons word [] last = refl
join_cons word (next ∷ others) last = refl

same_words : (others more : List (List ℕ)) (last final : List ℕ) → All IsWhole others → All IsWhole more → Ending last → Ending final
    → join_with_byte 32 (others ++ last ∷ []) ≡ join_with_byte 32 (more ++ final ∷ []) → others ++ last ∷ [] ≡ more ++ final ∷ []
same_words [] [] last final whole all ends too e = ap (λ word. word ∷ []) e
same_words [] (word ∷ more) last final whole all ends too e =
    let end = whole_ends word (All-head IsWhole word more all) in
    let line : word ++ 32 ∷ join_with_byte 32 (more ++ final ∷ []) ≡ last = sym (join_cons word more final) ∙ sym e in
    absurd (no_longer Start word last _ end.stays end.ends (last_stays last ends) line)
same_words (word ∷ others) [] last final whole all ends too e =
    let end = whole_ends word (All-head IsWhole word others whole) in
    let line : word ++ 32 ∷ join_with_byte 32 (others ++ last ∷ []) ≡ final = sym (join_cons word others last) ∙ e in
    absurd (no_longer Start word final _ end.stays end.ends (last_stays final too) line)
same_words (word ∷ others) (other ∷ more) last final whole all ends too e =
    let end = whole_ends word (All-head IsWhole word others whole) in
    let also = whole_ends other (All-head IsWhole other more all) in
    let line : word ++ 32 ∷ join_with_byte 32 (others ++ last ∷ []) ≡ other ++ 32 ∷ join_with_byte 32 (more ++ final ∷ []) =
    sym (join_cons word others last) ∙ e ∙ join_cons other more final in
    let cut = one_end Start word other _ _ end.stays end.ends also.stays also.ends line in
    let heads : word ≡ other = cut.0 in
    let rest : others ++ last ∷ [] ≡ more ++ final ∷ [] = same_words others more last final (All-tail IsWhole word others whole) (All-tail IsWhole other more all) ends too cut.1 in
    cc

pub one_list : (line : List ℕ) (a b : List (List ℕ)) → AreWords a line → AreWords b line → a ≡ b
one_list line a b x y =
    let same : join_with_byte 32 (x.others ++ x.last ∷ []) ≡ join_with_byte 32 (y.others ++ y.last ∷ []) =
    ap (join_with_byte 32) (sym x.parts) ∙ sym x.joined ∙ y.joined ∙ ap (join_with_byte 32) y.parts in
    x.parts ∙ same_words x.others y.others x.last y.last x.whole y.whole x.ends y.ends same ∙ sym y.parts

-- ---- the words are there

-- a word that a walk has come to the end of is the last of a line
pub last_word : (word : List ℕ) → Stays Start word → Ending word
last_word word stays = elim (within_or_ends (walk Start word)) [
  | inl ends ↦ inl (whole_word word stays ends)
  | inr within ↦ inr (unclosed_word word stays within)
]

one_word : (word : List ℕ) → Stays Start word → AreWords (word ∷ []) word
one_word word stays = record { others = []; last = word; parts = refl; joined = refl; whole = All-nil IsWhole; ends = last_word word stays }

-- a whole word in front of the words of the rest
word_more : (word rest : List ℕ) (words : List (List ℕ)) → Stays Start word → ends_at_space (walk Start word) ≡ true → AreWords words rest → AreWords (word ∷ words) (word ++ 32 ∷ rest)
word_more word rest words stays ends are = record {
  others = word ∷ are.others;
  last = are.last;
  parts = ap (λ ws. word ∷ ws) are.parts;
  joined = ap (λ t. word ++ 32 ∷ t) (are.joined ∙ ap (join_with_byte 32) are.parts) ∙ sym (join_cons word are.others are.last) ∙ ap (λ ws. join_with_byte 32 (word ∷ ws)) (sym are.parts);
  whole = All-cons IsWhole word are.others (whole_word word stays ends) are.whole;
  ends = are.ends;
}

Read : List ℕ → Type 0
Read line = (words : List (List ℕ)) × AreWords words line

read_on : (rest word : List ℕ) → Stays Start word → Read (word ++ rest)
unfolding Read
read_on [] word stays = subst Read (sym (append-nil word)) (word ∷ [], one_word word stays)
read_on (byte ∷ rest) word stays =
    let goes_on : (ends_at_space (walk Start word) ≡ true → byte ≢ 32) → Read (word ++ byte ∷ rest) = λ passes.
    subst Read (append_assoc word (byte ∷ []) rest) (read_on rest (word ++ byte ∷ []) (Stays-append Start word (byte ∷ []) stays (passes, tt))) in
    elim (within_or_ends (walk Start word)) [
      | inr within ↦ goes_on (λ ends. absurd cc)
      | inl ends ↦ elim (eqb_tells byte 32) [
        | inr differs ↦ goes_on (λ also. differs.1)
        | inl space ↦
            let behind = read_on rest [] tt in
            subst (λ b. Read (word ++ b ∷ rest)) (sym space.1) (word ∷ behind.0, word_more word rest behind.0 stays ends behind.1)
      ]
    ]

pub words_of : (line : List ℕ) → (words : List (List ℕ)) × AreWords words line
unfolding Read
words_of line = read_on line [] tt
