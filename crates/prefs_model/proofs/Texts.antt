-- The laws of a set of texts.
use Rattle.std.proofs.Common.{◌≡◌, ◌≢◌, ◌↔◌, ℕ, List, true, false, Option, Some, None, IsTrue, is_some, Contains, refl, sym, ◌∙◌, ap, if◌then◌else◌}
use Rattle.std.specs.Str.{IsUtf8}
use Rattle.prefs_model.specs.Rising.{value_under, IsRising}
use Rattle.prefs_model.specs.Texts.{IsTextSet, itself, has_text, with_text, without_text}
use Rattle.prefs_model.proofs.Rising.{IsSortedList-with_item, IsSortedList-without_key, with_item_found, value_with_item, value_with_other, value_without_key, value_without_other, same_from_values}
use Rattle.prefs_model.proofs.Latest.{found_key, found_contains, has_key_of_item}

abbrev text_at : List (List ℕ) → List ℕ → Option (List ℕ)
text_at texts text = value_under itself itself texts text

text_at_by : (found : Option (List ℕ)) (texts : List (List ℕ)) (text : List ℕ) → text_at texts text ≡ found → found ≡ (if is_some found then Some text else None)
text_at_by None texts text is = refl
text_at_by (Some other) texts text is = ap Some (found_key itself texts text other is)

-- what is found of a text is the text
text_at-has_text : (texts : List (List ℕ)) (text : List ℕ) → text_at texts text ≡ (if has_text texts text then Some text else None)
text_at-has_text texts text = text_at_by _ texts text refl

text_at_true : (texts : List (List ℕ)) (text : List ℕ) → has_text texts text ≡ true → text_at texts text ≡ Some text
text_at_true texts text there = text_at-has_text texts text ∙ rw there

pub has_text-Contains : (texts : List (List ℕ)) (text : List ℕ) → IsTrue (has_text texts text) ↔ Contains texts text
has_text-Contains texts text = (λ there. found_contains itself texts text text (text_at_true texts text there), has_key_of_item itself texts text)

one_text : (a b : List ℕ) → itself a ≡ itself b → itself a ≡ itself b → a ≡ b
one_text a b same _ = same

-- lists that rise and have the same texts are one list
pub same_from_rising : (a b : List (List ℕ)) → IsRising itself a → IsRising itself b → ((text : List ℕ) → has_text a text ≡ has_text b text) → a ≡ b
same_from_rising a b rising_a rising_b same =
    same_from_values itself itself one_text a b rising_a rising_b (λ text. text_at-has_text a text ∙ rw (same text) (sym (text_at-has_text b text)))

-- sets that have the same texts are one set
pub same_from_has_text : (a b : List (List ℕ)) → IsTextSet a → IsTextSet b → ((text : List ℕ) → has_text a text ≡ has_text b text) → a ≡ b
same_from_has_text a b set_a set_b same = same_from_rising a b set_a.rising set_b.rising same

pub IsTextSet-with_text : (texts : List (List ℕ)) (text : List ℕ) → IsTextSet texts → IsUtf8 text → IsTextSet (with_text texts text)
IsTextSet-with_text texts text = IsSortedList-with_item itself IsUtf8 texts text

pub has_text-with_text : (texts : List (List ℕ)) (text : List ℕ) → has_text (with_text texts text) text ≡ true
has_text-with_text texts text = ap is_some (value_with_item itself itself texts text)

pub has_text-with_other : (texts : List (List ℕ)) (text other : List ℕ) → other ≢ text → has_text (with_text texts text) other ≡ has_text texts other
has_text-with_other texts text other differs = ap is_some (value_with_other itself itself texts text other differs)

-- a text that is there changes nothing
pub with_text_same : (texts : List (List ℕ)) (text : List ℕ) → IsTextSet texts → has_text texts text ≡ true → with_text texts text ≡ texts
with_text_same texts text set there = with_item_found itself itself one_text texts text set.rising (text_at_true texts text there)

pub IsTextSet-without_text : (texts : List (List ℕ)) (text : List ℕ) → IsTextSet texts → IsTextSet (without_text texts text)
IsTextSet-without_text texts text = IsSortedList-without_key itself IsUtf8 texts text

pub has_text-without_text : (texts : List (List ℕ)) (text : List ℕ) → has_text (without_text texts text) text ≡ false
has_text-without_text texts text = ap is_some (value_without_key itself itself texts text)

pub has_text-without_other : (texts : List (List ℕ)) (text other : List ℕ) → other ≢ text → has_text (without_text texts text) other ≡ has_text texts other
has_text-without_other texts text other differs = ap is_some (value_without_other itself itself texts text other differs)
