-- What has been read where a walk has come to a place.
use Rattle.std.proofs.Common.{◌≡◌, ◌≢◌, ◌∙◌, ◌⊎◌, inl, inr, ◌==◌, ℕ, List, [], ◌∷◌, ◌++◌, true, false, cond, get_or, ◌<◌, lit<, refl, sym, ap, subst, arith, append_assoc, append-nil}
use Rattle.std.proofs.lemmas.Bool.{false≢true}
use Rattle.std.proofs.lemmas.Bool.Decides.{eqb_tells}
use Rattle.std.proofs.lemmas.List.Elements.{All-nil, All-push}
use Rattle.script_words.specs.Place.{after, ends_at_space}
use Rattle.script_words.specs.Words.{IsQuotable, nothing_quoted, quoted_byte, quoted_escape, IsListable, nothing_listed, listed_byte, listed_text, IsClosed, HasMark, IsWhole, IsUnclosed}
use Rattle.script_words.specs.declared.place.Place.{Place}
use Rattle.script_words.specs.declared.place.Place.TheVariants.{Start, Outside, Quoted, Escaped, Listed, ListedQuoted, ListedEscaped}
use Rattle.script_words.proofs.Walk.{walk, walk-append, Stays}
use Rattle.script_words.proofs.WalkIn.{closed_closes, walk-outside}

-- ---- runs of quotable and of listable bytes, one behind the other

pub quotable_append : (a b : List ℕ) → IsQuotable a → IsQuotable b → IsQuotable (a ++ b)
quotable_append a b nothing_quoted y = y
quotable_append a b (quoted_byte byte rest parts mark slash others) y = quoted_byte byte (rest ++ b) (ap (λ t. t ++ b) parts) mark slash (quotable_append rest b others y)
quotable_append a b (quoted_escape byte rest parts others) y = quoted_escape byte (rest ++ b) (ap (λ t. t ++ b) parts) (quotable_append rest b others y)

one_quotable : (byte : ℕ) → byte ≢ 34 → byte ≢ 92 → IsQuotable (byte ∷ [])
one_quotable byte mark slash = quoted_byte byte [] refl mark slash nothing_quoted

one_escape : (byte : ℕ) → IsQuotable (92 ∷ byte ∷ [])
one_escape byte = quoted_escape byte [] refl nothing_quoted

pub listable_append : (a b : List ℕ) → IsListable a → IsListable b → IsListable (a ++ b)
listable_append a b nothing_listed y = y
listable_append a b (listed_byte byte rest parts mark bracket others) y = listed_byte byte (rest ++ b) (ap (λ t. t ++ b) parts) mark bracket (listable_append rest b others y)
listable_append a b (listed_text inner rest parts quotable others) y =
    let whole : a ++ b ≡ 34 ∷ (inner ++ (34 ∷ (rest ++ b))) = ap (λ t. t ++ b) parts ∙ ap (λ t. 34 ∷ t) (append_assoc inner (34 ∷ rest) b) in
    listed_text inner (rest ++ b) whole quotable (listable_append rest b others y)

one_listable : (byte : ℕ) → byte ≢ 34 → byte ≢ 93 → IsListable (byte ∷ [])
one_listable byte mark bracket = listed_byte byte [] refl mark bracket nothing_listed

one_text : (inner : List ℕ) → IsQuotable inner → IsListable (34 ∷ (inner ++ 34 ∷ []))
one_text inner quotable = listed_text inner [] refl quotable nothing_listed

-- ---- what has been read

-- the bytes, behind this, of a quoted text that is open
record IsOpenText (opened read : List ℕ) : Type 0 where
  inner : List ℕ
  parts : read ≡ opened ++ inner
  quotable : IsQuotable inner

-- the bytes of a list that is open
record IsOpenList (read : List ℕ) : Type 0 where
  inner : List ℕ
  parts : read ≡ 91 ∷ inner
  listable : IsListable inner

-- the bytes of a list in which a quoted text is open
record IsOpenListText (read : List ℕ) : Type 0 where
  items : List ℕ
  listable : IsListable items
  text : IsOpenText (91 ∷ (items ++ 34 ∷ [])) read

-- a word that a space may follow, with a byte at least
record IsWholeRead (read : List ℕ) : Type 0 where
  some : read ≢ []
  whole : IsWhole read

At : Place → List ℕ → Type 0
At Start read = read ≡ []
At Outside read = IsWholeRead read
At Quoted read = IsOpenText (34 ∷ []) read
At Escaped read = (before : List ℕ) × (read ≡ before ++ 92 ∷ []) × IsOpenText (34 ∷ []) before
At Listed read = IsOpenList read
At ListedQuoted read = IsOpenListText read
At ListedEscaped read = (before : List ℕ) × (read ≡ before ++ 92 ∷ []) × IsOpenListText before

-- ---- one byte more

by_test : (P : Place → Type 0) (byte mark : ℕ) (one other : Place) → (byte ≡ mark → P one) → (byte ≢ mark → P other) → P (cond (byte == mark) one other)
by_test P byte mark one other if_same if_not = elim (eqb_tells byte mark) [
  | inl same ↦ rw same.0 (if_same same.1)
  | inr differs ↦ rw differs.0 (if_not differs.1)
]

open_more : (opened read more : List ℕ) → IsOpenText opened read → IsQuotable more → IsOpenText opened (read ++ more)
open_more opened read more opens quotable = record {
  inner = opens.inner ++ more;
  parts = ap (λ t. t ++ more) opens.parts ∙ append_assoc opened opens.inner more;
  quotable = quotable_append opens.inner more opens.quotable quotable;
}

-- a backslash takes the byte behind it
escape_more : (opened before read : List ℕ) (byte : ℕ) → read ≡ before ++ 92 ∷ [] → IsOpenText opened before → IsOpenText opened (read ++ byte ∷ [])
escape_more opened before read byte parts opens =
    let whole : read ++ byte ∷ [] ≡ before ++ 92 ∷ byte ∷ [] = ap (λ t. t ++ byte ∷ []) parts ∙ append_assoc before (92 ∷ []) (byte ∷ []) in
    subst (IsOpenText opened) (sym whole) (open_more opened before (92 ∷ byte ∷ []) opens (one_escape byte))

some_more : (read : List ℕ) (byte : ℕ) → read ++ byte ∷ [] ≢ []
some_more [] byte e = cc
some_more (first ∷ rest) byte e = cc

closed_read : (read : List ℕ) → read ≢ [] → IsClosed read → IsWholeRead read
closed_read read some closed = record {
  some = some;
  whole = record { front = read; rest = []; parts = sym (append-nil read); begins = inl closed; spaceless = All-nil (λ byte. byte ≢ 32) };
}

unmarked_more : (read more : List ℕ) → read ≢ [] → ¬ HasMark read → ¬ HasMark (read ++ more)
unmarked_more [] more some unmarked = absurd (some refl)
unmarked_more (first ∷ rest) more some unmarked = unmarked

whole_more : (read : List ℕ) (byte : ℕ) → byte ≢ 32 → IsWholeRead read → IsWholeRead (read ++ byte ∷ [])
whole_more read byte differs before =
    let whole = before.whole in
    let begins : IsClosed whole.front ⊎ ((whole.front ≡ []) × ¬ HasMark (read ++ byte ∷ [])) = elim whole.begins [
      | inl closed ↦ inl closed
      | inr bare ↦ inr (bare.0, unmarked_more read (byte ∷ []) before.some bare.1)
    ] in
    record {
      some = some_more read byte;
      whole = record {
        front = whole.front;
        rest = whole.rest ++ byte ∷ [];
        parts = ap (λ t. t ++ byte ∷ []) whole.parts ∙ append_assoc whole.front whole.rest (byte ∷ []);
        begins = begins;
        spaceless = All-push (λ b. b ≢ 32) whole.rest byte whole.spaceless differs;
      };
    }

first_byte : (byte : ℕ) → byte ≢ 32 → byte ≢ 34 → byte ≢ 91 → IsWholeRead (byte ∷ [])
first_byte byte differs quote bracket = record {
  some = λ e. cc;
  whole = record {
    front = [];
    rest = byte ∷ [];
    parts = refl;
    begins = inr (refl, λ marked. elim marked [ inl e ↦ quote e | inr e ↦ bracket e ]);
    spaceless = All-push (λ b. b ≢ 32) [] byte (All-nil (λ b. b ≢ 32)) differs;
  };
}

quote_closes : (read : List ℕ) → IsOpenText (34 ∷ []) read → IsWholeRead (read ++ 34 ∷ [])
quote_closes read opens =
    closed_read (read ++ 34 ∷ []) (some_more read 34) (inl (record { inner = opens.inner; marks = ap (λ t. t ++ 34 ∷ []) opens.parts; quotable = opens.quotable }))

bracket_closes : (read : List ℕ) → IsOpenList read → IsWholeRead (read ++ 93 ∷ [])
bracket_closes read opens =
    closed_read (read ++ 93 ∷ []) (some_more read 93) (inr (record { inner = opens.inner; marks = ap (λ t. t ++ 93 ∷ []) opens.parts; listable = opens.listable }))

list_more : (read more : List ℕ) → IsOpenList read → IsListable more → IsOpenList (read ++ more)
list_more read more opens listable =
    record { inner = opens.inner ++ more; parts = ap (λ t. t ++ more) opens.parts; listable = listable_append opens.inner more opens.listable listable }

text_opens : (read : List ℕ) → IsOpenList read → IsOpenListText (read ++ 34 ∷ [])
text_opens read opens = record {
  items = opens.inner;
  listable = opens.listable;
  text = record { inner = []; parts = ap (λ t. t ++ 34 ∷ []) opens.parts ∙ sym (append-nil (91 ∷ (opens.inner ++ 34 ∷ []))); quotable = nothing_quoted };
}

text_closes : (read : List ℕ) → IsOpenListText read → IsOpenList (read ++ 34 ∷ [])
text_closes read opens =
    let text = opens.text in
    let parts : read ++ 34 ∷ [] ≡ 91 ∷ (opens.items ++ (34 ∷ (text.inner ++ 34 ∷ []))) =
    ap (λ t. t ++ 34 ∷ []) text.parts ∙ append_assoc (91 ∷ (opens.items ++ 34 ∷ [])) text.inner (34 ∷ []) ∙ ap (λ t. 91 ∷ t) (append_assoc opens.items (34 ∷ []) (text.inner ++ 34 ∷ [])) in
    record { inner = opens.items ++ (34 ∷ (text.inner ++ 34 ∷ [])); parts = parts; listable = listable_append opens.items (34 ∷ (text.inner ++ 34 ∷ [])) opens.listable (one_text text.inner text.quotable) }

one_more : (place : Place) (read : List ℕ) (byte : ℕ) → At place read → (ends_at_space place ≡ true → byte ≢ 32) → At (after place byte) (read ++ byte ∷ [])
unfolding At
one_more Start read byte at differs =
    let alone : read ++ byte ∷ [] ≡ byte ∷ [] = ap (λ t. t ++ byte ∷ []) at in
    let P : Place → Type 0 = λ p. At p (byte ∷ []) in
    subst (At (after Start byte)) (sym alone)
    (by_test P byte 34 Quoted (cond (byte == 91) Listed Outside)
    (λ e. record { inner = []; parts = ap (λ b. b ∷ []) e; quotable = nothing_quoted })
    (λ quote. by_test P byte 91 Listed Outside
    (λ e. record { inner = []; parts = ap (λ b. b ∷ []) e; listable = nothing_listed })
    (λ bracket. first_byte byte (differs refl) quote bracket)))
one_more Outside read byte at differs = whole_more read byte (differs refl) at
one_more Quoted read byte at differs =
    let P : Place → Type 0 = λ p. At p (read ++ byte ∷ []) in
    by_test P byte 34 Outside (cond (byte == 92) Escaped Quoted)
    (λ e. subst (λ b. IsWholeRead (read ++ b ∷ [])) (sym e) (quote_closes read at))
    (λ quote. by_test P byte 92 Escaped Quoted
    (λ e. (read, ap (λ b. read ++ b ∷ []) e, at))
    (λ slash. open_more (34 ∷ []) read (byte ∷ []) at (one_quotable byte quote slash)))
one_more Escaped read byte at differs = escape_more (34 ∷ []) at.0 read byte at.1 at.2
one_more Listed read byte at differs =
    let P : Place → Type 0 = λ p. At p (read ++ byte ∷ []) in
    by_test P byte 93 Outside (cond (byte == 34) ListedQuoted Listed)
    (λ e. subst (λ b. IsWholeRead (read ++ b ∷ [])) (sym e) (bracket_closes read at))
    (λ bracket. by_test P byte 34 ListedQuoted Listed
    (λ e. subst (λ b. IsOpenListText (read ++ b ∷ [])) (sym e) (text_opens read at))
    (λ quote. list_more read (byte ∷ []) at (one_listable byte quote bracket)))
one_more ListedQuoted read byte at differs =
    let P : Place → Type 0 = λ p. At p (read ++ byte ∷ []) in
    by_test P byte 34 Listed (cond (byte == 92) ListedEscaped ListedQuoted)
    (λ e. subst (λ b. IsOpenList (read ++ b ∷ [])) (sym e) (text_closes read at))
    (λ quote. by_test P byte 92 ListedEscaped ListedQuoted
    (λ e. (read, ap (λ b. read ++ b ∷ []) e, at))
    (λ slash. record { items = at.items; listable = at.listable; text = open_more (91 ∷ (at.items ++ 34 ∷ [])) read (byte ∷ []) at.text (one_quotable byte quote slash) }))
one_more ListedEscaped read byte at differs =
    record { items = at.2.items; listable = at.2.listable; text = escape_more (91 ∷ (at.2.items ++ 34 ∷ [])) at.0 read byte at.1 at.2.text }

-- what has been read is what stands at the place that a walk comes to
at_walk : (rest read : List ℕ) (place : Place) → At place read → Stays place rest → At (walk place rest) (read ++ rest)
at_walk [] read place at stays = subst (At place) (sym (append-nil read)) at
at_walk (byte ∷ rest) read place at stays =
    subst (At (walk (after place byte) rest)) (append_assoc read (byte ∷ []) rest)
    (at_walk rest (read ++ byte ∷ []) (after place byte) (one_more place read byte at stays.0) stays.1)

at_word : (word : List ℕ) → Stays Start word → At (walk Start word) word
unfolding At
at_word word stays = at_walk word [] Start refl stays

-- ---- which words a space may follow, and which not

no_byte : (byte : ℕ) → 0 < byte → 0 ≡ byte → ⊥
no_byte byte some e = omega arith

whole_at : (place : Place) (read : List ℕ) → At place read → ends_at_space place ≡ true → IsWhole read
unfolding At
whole_at Start read at ends = record { front = []; rest = []; parts = at; begins = inr (refl, λ marked. elim marked [ inl e ↦ no_byte 34 (lit< tt) (sym (ap (λ t. get_or t 0 0) at) ∙ e) | inr e ↦ no_byte 91 (lit< tt) (sym (ap (λ t. get_or t 0 0) at) ∙ e) ]); spaceless = All-nil (λ byte. byte ≢ 32) }
whole_at Outside read at ends = at.whole
whole_at place read at ends = absurd (false≢true ends)

pub whole_word : (word : List ℕ) → Stays Start word → ends_at_space (walk Start word) ≡ true → IsWhole word
whole_word word stays ends = whole_at (walk Start word) word (at_word word stays) ends

mark_at : (place : Place) (read : List ℕ) → At place read → ends_at_space place ≡ false → HasMark read
unfolding At
mark_at Quoted read at within = inl (ap (λ t. get_or t 0 0) at.parts)
mark_at Escaped read at within = inl (ap (λ t. get_or t 0 0) (at.1 ∙ ap (λ t. t ++ 92 ∷ []) at.2.parts))
mark_at Listed read at within = inr (ap (λ t. get_or t 0 0) at.parts)
mark_at ListedQuoted read at within = inr (ap (λ t. get_or t 0 0) at.text.parts)
mark_at ListedEscaped read at within = inr (ap (λ t. get_or t 0 0) (at.1 ∙ ap (λ t. t ++ 92 ∷ []) at.2.text.parts))
mark_at place read at within = absurd (false≢true (sym within))

pub unclosed_word : (word : List ℕ) → Stays Start word → ends_at_space (walk Start word) ≡ false → IsUnclosed word
unclosed_word word stays within = record {
  mark = mark_at (walk Start word) word (at_word word stays) within;
  open_to_end = λ front rest parts closed.
      let closes = closed_closes front closed in
      let out : walk Start word ≡ Outside = ap (walk Start) parts ∙ walk-append Start front rest ∙ ap (λ p. walk p rest) closes.outside ∙ walk-outside rest in
      false≢true (sym within ∙ ap ends_at_space out);
}

-- an unclosed word is left nowhere
mark_stays : (read rest : List ℕ) → read ≢ [] → HasMark (read ++ rest) → HasMark read
mark_stays [] rest some mark = absurd (some refl)
mark_stays (first ∷ others) rest some mark = mark

not_whole : (word read rest : List ℕ) → word ≡ read ++ rest → read ≢ [] → IsUnclosed word → IsWhole read → ⊥
not_whole word read rest parts some unclosed whole = elim whole.begins [
  | inl closed ↦ unclosed.open_to_end whole.front (whole.rest ++ rest) (parts ∙ ap (λ t. t ++ rest) whole.parts ∙ append_assoc whole.front whole.rest rest) closed
  | inr bare ↦ bare.1 (mark_stays read rest some (subst HasMark parts unclosed.mark))
]

pub within_or_ends : (place : Place) → (ends_at_space place ≡ true) ⊎ (ends_at_space place ≡ false)
within_or_ends Start = inl refl
within_or_ends Outside = inl refl
within_or_ends place = inr refl

stays_unclosed : (rest read word : List ℕ) (place : Place) → word ≡ read ++ rest → At place read → ends_at_space place ≡ false → IsUnclosed word → Stays place rest
stays_unclosed [] read word place parts at within unclosed = tt
stays_unclosed (byte ∷ rest) read word place parts at within unclosed =
    let passes : ends_at_space place ≡ true → byte ≢ 32 = λ ends. absurd (false≢true (sym within ∙ ends)) in
    let next : At (after place byte) (read ++ byte ∷ []) = one_more place read byte at passes in
    let whole : word ≡ (read ++ byte ∷ []) ++ rest = parts ∙ sym (append_assoc read (byte ∷ []) rest) in
    let further : ends_at_space (after place byte) ≡ false = elim (within_or_ends (after place byte)) [
      | inl ends ↦ absurd (not_whole word (read ++ byte ∷ []) rest whole (some_more read byte) unclosed (whole_at (after place byte) (read ++ byte ∷ []) next ends))
      | inr stays ↦ stays
    ] in
    (passes, stays_unclosed rest (read ++ byte ∷ []) word (after place byte) whole next further unclosed)

pub unclosed_stays : (word : List ℕ) → IsUnclosed word → Stays Start word
unfolding At
unclosed_stays [] unclosed = absurd (elim unclosed.mark [ inl e ↦ no_byte 34 (lit< tt) e | inr e ↦ no_byte 91 (lit< tt) e ])
unclosed_stays (byte ∷ rest) unclosed =
    let passes : ends_at_space Start ≡ true → byte ≢ 32 = λ ends e. elim unclosed.mark [ inl mark ↦ absurd (omega arith) | inr mark ↦ absurd (omega arith) ] in
    let next : At (after Start byte) (byte ∷ []) = one_more Start [] byte refl passes in
    let further : ends_at_space (after Start byte) ≡ false = elim (within_or_ends (after Start byte)) [
      | inl ends ↦ absurd (not_whole (byte ∷ rest) (byte ∷ []) rest refl (some_more [] byte) unclosed (whole_at (after Start byte) (byte ∷ []) next ends))
      | inr stays ↦ stays
    ] in
    (passes, stays_unclosed rest (byte ∷ []) (byte ∷ rest) (after Start byte) refl next further unclosed)
