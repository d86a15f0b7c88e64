-- How many bytes there are, as far as 64 bits count.
use Rattle.std.proofs.Common.{◌≡◌, ℕ, ◌+◌, ◌-◌, ◌^◌, ◌<◌, ◌≤◌, List, ◌++◌, length, min, take, get_or, ap, sym, ◌∙◌, arith, length-append, inl, inr}
use Rattle.std.proofs.lemmas.Bool.{cases_lt}
use Rattle.wire_codec.specs.Text.{varint_text}
use Rattle.std.proofs.lemmas.Grind.{common_steps}
use Rattle.prefs_proto.specs.FieldText.{field, count_of}
use Rattle.prefs_proto.specs.ValueText.{set_text}
use Rattle.prefs_proto.specs.Laws.Fields.{length-field}

pub counted : (bytes : List ℕ) (len : ℕ) → len ≡ count_of bytes → len < 2 ^ 64 - 1 → len ≡ length bytes
counted bytes len is small = omega arith

count_small : (tag : ℕ) (content : List ℕ) (len : ℕ) → len ≡ length content → min (1 + length (varint_text len) + len) (2 ^ 64 - 1) ≡ count_of (field tag content)
count_small tag content len is = rw is (omega (arith, length-field tag content))

count_large : (tag : ℕ) (content : List ℕ) (len : ℕ) → len ≡ count_of content → 2 ^ 64 - 1 ≤ length content → min (1 + length (varint_text len) + len) (2 ^ 64 - 1) ≡ count_of (field tag content)
count_large tag content len is large = omega (arith, length-field tag content)

pub count-field : (tag : ℕ) (content : List ℕ) (len : ℕ) → len ≡ count_of content → min (1 + length (varint_text len) + len) (2 ^ 64 - 1) ≡ count_of (field tag content)
count-field tag content len is =
    elim (cases_lt (length content) (2 ^ 64 - 1)) [
      | inl small ↦ count_small tag content len (omega arith)
      | inr large ↦ count_large tag content len is large
    ]

pub count-append : (a b : List ℕ) (x y : ℕ) → x ≡ count_of a → y ≡ count_of b → min (x + y) (2 ^ 64 - 1) ≡ count_of (a ++ b)
count-append a b x y is_x is_y = omega (arith, length-append a b)

-- one more text of a set
text_more : (texts : List (List ℕ)) (place : ℕ) (text : List ℕ) → place < length texts → text ≡ get_or texts place text → set_text (take (place + 1) texts) ≡ set_text (take place texts) ++ field 0x0a text
unfolding set_text
text_more texts place text lt is = grind (arith, common_steps)

pub count-text_more : (texts : List (List ℕ)) (place : ℕ) (text : List ℕ) (len more now : ℕ) → place < length texts → text ≡ get_or texts place text
    → len ≡ count_of (set_text (take place texts)) → more ≡ count_of (field 0x0a text) → now ≡ min (len + more) (2 ^ 64 - 1) → now ≡ count_of (set_text (take (place + 1) texts))
count-text_more texts place text len more now lt is before here sum =
    sum ∙ count-append (set_text (take place texts)) (field 0x0a text) len more before here ∙ ap count_of (sym (text_more texts place text lt is))
