-- What a walk makes of quoted texts, lists and whole words.
use Rattle.std.proofs.Common.{◌≡◌, ◌≢◌, ◌∙◌, inl, inr, ℕ, List, [], ◌∷◌, ◌++◌, true, false, refl, sym, ap, subst, arith}
use Rattle.std.proofs.lemmas.Bool.{false≢true, ne_eqb}
use Rattle.std.proofs.lemmas.List.Elements.{All-head, All-tail}
use Rattle.script_words.specs.Place.{after, ends_at_space}
use Rattle.script_words.specs.Words.{IsQuotable, nothing_quoted, quoted_byte, quoted_escape, IsListable, nothing_listed, listed_byte, listed_text, IsQuotedText, IsBracketed, IsClosed, HasMark, HasNoSpace, IsWhole}
use Rattle.script_words.specs.declared.place.Place.{Place}
use Rattle.script_words.specs.declared.place.Place.TheVariants.{Start, Outside, Quoted, Escaped, Listed, ListedQuoted, ListedEscaped}
use Rattle.script_words.proofs.Walk.{walk, walk-append, Stays, Stays-append}

-- the places within a quoted text
record IsQuotePlace (quote escape : Place) : Type 0 where
  plain : (byte : ℕ) → byte ≢ 34 → byte ≢ 92 → after quote byte ≡ quote
  slash : after quote 92 ≡ escape
  back : (byte : ℕ) → after escape byte ≡ quote
  inner : ends_at_space quote ≡ false
  inner_escape : ends_at_space escape ≡ false

quoted_place : IsQuotePlace Quoted Escaped
quoted_place = record { plain = λ byte mark slash. rw (ne_eqb byte 34 mark, ne_eqb byte 92 slash) refl; slash = refl; back = λ byte. refl; inner = refl; inner_escape = refl }

listed_place : IsQuotePlace ListedQuoted ListedEscaped
listed_place = record { plain = λ byte mark slash. rw (ne_eqb byte 34 mark, ne_eqb byte 92 slash) refl; slash = refl; back = λ byte. refl; inner = refl; inner_escape = refl }

-- a byte at which no space can end the word
passes : (place : Place) (byte : ℕ) → ends_at_space place ≡ false → ends_at_space place ≡ true → byte ≢ 32
passes place byte within ends = absurd (false≢true (sym within ∙ ends))

-- the walk stays within, and comes back to the place
record Returns (place : Place) (text : List ℕ) : Type 0 where
  stays : Stays place text
  same : walk place text ≡ place

quotable_returns : (here behind : Place) (text : List ℕ) → IsQuotePlace here behind → IsQuotable text → Returns here text
quotable_returns here behind text at nothing_quoted = record { stays = tt; same = refl }
quotable_returns here behind text at (quoted_byte byte rest parts mark slash others) =
    let further = quotable_returns here behind rest at others in
    let step : here ≡ after here byte = sym (at.plain byte mark slash) in
    subst (λ t. Returns here t) (sym parts) (record {
      stays = (passes here byte at.inner, subst (λ p. Stays p rest) step further.stays);
      same = ap (λ p. walk p rest) (sym step) ∙ further.same;
    })
quotable_returns here behind text at (quoted_escape byte rest parts others) =
    let further = quotable_returns here behind rest at others in
    let step : here ≡ after (after here 92) byte = sym (ap (λ p. after p byte) at.slash ∙ at.back byte) in
    let within : ends_at_space (after here 92) ≡ false = ap ends_at_space at.slash ∙ at.inner_escape in
    subst (λ t. Returns here t) (sym parts) (record {
      stays = (passes here 92 at.inner, (passes (after here 92) byte within, subst (λ p. Stays p rest) step further.stays));
      same = ap (λ p. walk p rest) (sym step) ∙ further.same;
    })

listable_returns : (text : List ℕ) → IsListable text → Returns Listed text
listable_returns text nothing_listed = record { stays = tt; same = refl }
listable_returns text (listed_byte byte rest parts mark bracket others) =
    let further = listable_returns rest others in
    let step : Listed ≡ after Listed byte = rw (ne_eqb byte 93 bracket, ne_eqb byte 34 mark) refl in
    subst (λ t. Returns Listed t) (sym parts) (record {
      stays = (passes Listed byte refl, subst (λ p. Stays p rest) step further.stays);
      same = ap (λ p. walk p rest) (sym step) ∙ further.same;
    })
listable_returns text (listed_text inner rest parts quotable others) =
    let further = listable_returns rest others in
    let within = quotable_returns ListedQuoted ListedEscaped inner listed_place quotable in
    let behind : Stays ListedQuoted (34 ∷ rest) = (passes ListedQuoted 34 refl, further.stays) in
    subst (λ t. Returns Listed t) (sym parts) (record {
      stays = (passes Listed 34 refl, Stays-append ListedQuoted inner (34 ∷ rest) within.stays (subst (λ p. Stays p (34 ∷ rest)) (sym within.same) behind));
      same = walk-append ListedQuoted inner (34 ∷ rest) ∙ ap (λ p. walk p (34 ∷ rest)) within.same ∙ further.same;
    })

-- the walk stays within, and ends behind what is closed
pub record Closes (text : List ℕ) : Type 0 where
  pub stays : Stays Start text
  pub outside : walk Start text ≡ Outside

differs_quote : ◌≢◌ {A = ℕ} 34 32
differs_quote e = omega arith

differs_bracket : ◌≢◌ {A = ℕ} 91 32
differs_bracket e = omega arith

quoted_closes : (text : List ℕ) → IsQuotedText text → Closes text
quoted_closes text quoted =
    let inner = quoted.inner in
    let within = quotable_returns Quoted Escaped inner quoted_place quoted.quotable in
    let behind : Stays Quoted (34 ∷ []) = (passes Quoted 34 refl, tt) in
    subst Closes (sym quoted.marks) (record {
      stays = ((λ ends. differs_quote), Stays-append Quoted inner (34 ∷ []) within.stays (subst (λ p. Stays p (34 ∷ [])) (sym within.same) behind));
      outside = walk-append Quoted inner (34 ∷ []) ∙ ap (λ p. walk p (34 ∷ [])) within.same;
    })

bracketed_closes : (text : List ℕ) → IsBracketed text → Closes text
bracketed_closes text list =
    let inner = list.inner in
    let within = listable_returns inner list.listable in
    let behind : Stays Listed (93 ∷ []) = (passes Listed 93 refl, tt) in
    subst Closes (sym list.marks) (record {
      stays = ((λ ends. differs_bracket), Stays-append Listed inner (93 ∷ []) within.stays (subst (λ p. Stays p (93 ∷ [])) (sym within.same) behind));
      outside = walk-append Listed inner (93 ∷ []) ∙ ap (λ p. walk p (93 ∷ [])) within.same;
    })

pub closed_closes : (text : List ℕ) → IsClosed text → Closes text
closed_closes text (inl quoted) = quoted_closes text quoted
closed_closes text (inr list) = bracketed_closes text list

-- nothing opens behind what is closed
pub walk-outside : (text : List ℕ) → walk Outside text ≡ Outside
walk-outside [] = refl
walk-outside (byte ∷ rest) = walk-outside rest

spaceless_stays : (text : List ℕ) → HasNoSpace text → Stays Outside text
spaceless_stays [] spaceless = tt
spaceless_stays (byte ∷ rest) spaceless =
    ((λ ends. All-head (λ byte. byte ≢ 32) byte rest spaceless), spaceless_stays rest (All-tail (λ byte. byte ≢ 32) byte rest spaceless))

-- the walk stays within the word, and a space may follow it
pub record Ends (word : List ℕ) : Type 0 where
  pub stays : Stays Start word
  pub ends : ends_at_space (walk Start word) ≡ true

unmarked_ends : (word : List ℕ) → ¬ HasMark word → HasNoSpace word → Ends word
unmarked_ends [] unmarked spaceless = record { stays = tt; ends = refl }
unmarked_ends (byte ∷ rest) unmarked spaceless =
    let step : Outside ≡ after Start byte = rw (ne_eqb byte 34 (λ e. unmarked (inl e)), ne_eqb byte 91 (λ e. unmarked (inr e))) refl in
    record {
      stays = ((λ ends. All-head (λ byte. byte ≢ 32) byte rest spaceless), subst (λ p. Stays p rest) step (spaceless_stays rest (All-tail (λ byte. byte ≢ 32) byte rest spaceless)));
      ends = ap (λ p. ends_at_space (walk p rest)) (sym step) ∙ ap ends_at_space (walk-outside rest);
    }

closed_ends : (front rest : List ℕ) → Closes front → HasNoSpace rest → Ends (front ++ rest)
closed_ends front rest closes spaceless = record {
  stays = Stays-append Start front rest closes.stays (subst (λ p. Stays p rest) (sym closes.outside) (spaceless_stays rest spaceless));
  ends = ap ends_at_space (walk-append Start front rest ∙ ap (λ p. walk p rest) closes.outside ∙ walk-outside rest);
}

pub whole_ends : (word : List ℕ) → IsWhole word → Ends word
whole_ends word whole = elim whole.begins [
  | inl closed ↦ subst Ends (sym whole.parts) (closed_ends whole.front whole.rest (closed_closes whole.front closed) whole.spaceless)
  | inr bare ↦
      let same : word ≡ whole.rest = whole.parts ∙ ap (λ front. front ++ whole.rest) bare.0 in
      unmarked_ends word bare.1 (subst HasNoSpace (sym same) whole.spaceless)
]
