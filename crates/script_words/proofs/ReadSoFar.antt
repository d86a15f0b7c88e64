-- What has been read of a line.
use Rattle.std.proofs.Common.{◌≡◌, ◌≢◌, ◌∙◌, ◌≤◌, ◌<◌, ◌+◌, ◌-◌, ℕ, List, [], ◌∷◌, ◌++◌, All, true, length, take, drop, get_or, refl, sym, ap, subst, arith, append_assoc, append-nil}
use Rattle.std.specs.Prelude.{slice_range}
use Rattle.std.specs.List.{flat_map, join_with_byte}
use Rattle.std.specs.Str.{IsCharBoundary, IsUtf8}
use Rattle.std.proofs.lemmas.Str.{IsCharBoundary-after_ascii, IsCharBoundary-start}
use Rattle.std.proofs.lemmas.Grind.{flat_map-append}
use Rattle.std.proofs.lemmas.List.{get_or-drop, length-drop, take_all, take_more, take-append-drop}
use Rattle.std.proofs.lemmas.List.Elements.{All-nil, All-push}
use Rattle.std.proofs.Math.Nat.{sub_self}
use Rattle.std.proofs.Math.Seq.{take-add}
use Rattle.script_words.specs.Place.{after, ends_at_space}
use Rattle.script_words.specs.Words.{AreWords, IsWhole}
use Rattle.script_words.specs.declared.place.Place.{Place}
use Rattle.script_words.specs.declared.place.Place.TheVariants.{Start}
use Rattle.script_words.proofs.Walk.{walk, walk-append, Stays, Stays-append}
use Rattle.script_words.proofs.OneLine.{join_cons, last_word}
use Rattle.script_words.proofs.WalkOut.{whole_word}

-- whole words, with a space behind each
abbrev pub spaced : List (List ℕ) → List ℕ
spaced words = flat_map (λ word. word ++ 32 ∷ []) words

-- up to a byte the line is whole words, a space behind each, and the front of a word that began at start
pub record ReadSoFar (line : List ℕ) (start here : ℕ) (place : Place) (words : List (List ℕ)) : Type 0 where
  pub within : start ≤ here
  pub before : take start line ≡ spaced words
  pub whole : All IsWhole words
  pub came_to : place ≡ walk Start (slice_range line start here)
  pub stays : Stays Start (slice_range line start here)
  pub boundary : IsCharBoundary line start

-- the front of the word with one byte more
slice_more : (line : List ℕ) (start here : ℕ) → start ≤ here → here < length line
    → slice_range line start (here + 1) ≡ slice_range line start here ++ get_or line here 0 ∷ []
slice_more line start here within some =
    let longer : here + 1 - start ≡ here - start + 1 = omega arith in
    let inside : here - start < length (drop start line) = omega (arith, length-drop start line) in
    let place : start + (here - start) ≡ here = omega arith in
    let byte : get_or (drop start line) (here - start) 0 ≡ get_or line here 0 = get_or-drop start line (here - start) 0 ∙ ap (λ k. get_or line k 0) place in
    ap (λ k. take k (drop start line)) longer ∙ take_more (drop start line) (here - start) 0 inside ∙ ap (λ b. slice_range line start here ++ b ∷ []) byte

-- the front of a line, cut
take_cut : (line : List ℕ) (start here : ℕ) → start ≤ here → take here line ≡ take start line ++ slice_range line start here
take_cut line start here within =
    let place : here ≡ start + (here - start) = omega arith in
    ap (λ k. take k line) place ∙ take-add start (here - start) line

pub read_none : (line : List ℕ) → IsUtf8 line → ReadSoFar line 0 0 Start []
read_none line utf8 = record { within = omega arith; before = refl; whole = All-nil IsWhole; came_to = refl; stays = tt; boundary = IsCharBoundary-start line utf8 }

pub read_more : (line : List ℕ) (start here : ℕ) (place : Place) (words : List (List ℕ)) (byte : ℕ) → ReadSoFar line start here place words → here < length line → get_or line here 0 ≡ byte
    → (ends_at_space place ≡ true → byte ≢ 32) → ReadSoFar line start (here + 1) (after place byte) words
read_more line start here place words byte r some at passes =
    let word = slice_range line start here in
    let longer : word ++ byte ∷ [] ≡ slice_range line start (here + 1) = sym (slice_more line start here r.within some ∙ ap (λ b. word ++ b ∷ []) at) in
    let step : (ends_at_space (walk Start word) ≡ true → byte ≢ 32) = subst (λ p. ends_at_space p ≡ true → byte ≢ 32) r.came_to passes in
    record {
      within = omega (arith, r.within);
      before = r.before;
      whole = r.whole;
      came_to = ap (λ p. after p byte) r.came_to ∙ sym (walk-append Start word (byte ∷ [])) ∙ ap (walk Start) longer;
      stays = subst (Stays Start) longer (Stays-append Start word (byte ∷ []) r.stays (step, tt));
      boundary = r.boundary;
    }

pub read_space : (line : List ℕ) (start here : ℕ) (place : Place) (words : List (List ℕ)) → IsUtf8 line → ReadSoFar line start here place words → here < length line → get_or line here 0 ≡ 32
    → ends_at_space place ≡ true → ReadSoFar line (here + 1) (here + 1) Start (words ++ slice_range line start here ∷ [])
read_space line start here place words utf8 r some at ends =
    let word = slice_range line start here in
    let front : take (here + 1) line ≡ take start line ++ (word ++ 32 ∷ []) =
    take_more line here 0 some ∙ ap (λ b. take here line ++ b ∷ []) at ∙ ap (λ t. t ++ 32 ∷ []) (take_cut line start here r.within) ∙ append_assoc (take start line) word (32 ∷ []) in
    let more : spaced words ++ (word ++ 32 ∷ []) ≡ spaced (words ++ word ∷ []) =
    ap (λ t. spaced words ++ t) (sym (append-nil (word ++ 32 ∷ []))) ∙ sym (flat_map-append (λ w. w ++ 32 ∷ []) words (word ∷ [])) in
    let none : slice_range line (here + 1) (here + 1) ≡ [] = ap (λ k. take k (drop (here + 1) line)) (sub_self (here + 1)) in
    record {
      within = omega arith;
      before = front ∙ ap (λ t. t ++ (word ++ 32 ∷ [])) r.before ∙ more;
      whole = All-push IsWhole words word r.whole (whole_word word r.stays (ap ends_at_space (sym r.came_to) ∙ ends));
      came_to = ap (walk Start) (sym none);
      stays = subst (Stays Start) (sym none) tt;
      boundary = IsCharBoundary-after_ascii line here utf8 some (omega arith);
    }

join_spaced : (words : List (List ℕ)) (last : List ℕ) → join_with_byte 32 (words ++ last ∷ []) ≡ spaced words ++ last
join_spaced [] last = refl
join_spaced (word ∷ words) last =
    join_cons word words last ∙ ap (λ t. word ++ 32 ∷ t) (join_spaced words last) ∙ sym (append_assoc word (32 ∷ []) (spaced words ++ last)) ∙ sym (append_assoc (word ++ 32 ∷ []) (spaced words) last)

pub read_all : (line : List ℕ) (start here : ℕ) (place : Place) (words : List (List ℕ)) → ReadSoFar line start here place words → length line ≤ here
    → AreWords (words ++ drop start line ∷ []) line
read_all line start here place words r all =
    let word : slice_range line start here ≡ drop start line = take_all (here - start) (drop start line) (omega (arith, length-drop start line)) in
    record {
      others = words;
      last = drop start line;
      parts = refl;
      joined = sym (take-append-drop start line) ∙ ap (λ t. t ++ drop start line) r.before ∙ sym (join_spaced words (drop start line));
      whole = r.whole;
      ends = last_word (drop start line) (subst (Stays Start) word r.stays);
    }

-- the same, under other names
pub named : (line : List ℕ) (start start' here : ℕ) (place place' : Place) (words words' : List (List ℕ)) → start' ≡ start → place' ≡ place → words' ≡ words
    → ReadSoFar line start here place words → ReadSoFar line start' here place' words'
named line start start' here place place' words words' starts places lists r =
    subst (λ ws. ReadSoFar line start' here place' ws) (sym lists)
    (subst (λ p. ReadSoFar line start' here p words) (sym places)
    (subst (λ k. ReadSoFar line k here place words) (sym starts) r))
