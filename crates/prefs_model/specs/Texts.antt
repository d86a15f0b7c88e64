-- A set of texts: texts that rise strictly, byte by byte.
use Rattle.std.specs.Prelude.{ℕ, List, [], ◌∷◌, Bool}
use Rattle.std.specs.Str.{IsUtf8}
use Rattle.prefs_model.specs.Rising.{IsSortedList, has_key, with_item, without_key}

-- each text is its own key
abbrev pub itself : List ℕ → List ℕ
itself text = text

abbrev pub IsTextSet : List (List ℕ) → Type 0
IsTextSet texts = IsSortedList itself IsUtf8 texts

abbrev pub has_text : List (List ℕ) → List ℕ → Bool
has_text texts text = has_key itself texts text

-- the set with this text
abbrev pub with_text : List (List ℕ) → List ℕ → List (List ℕ)
with_text texts text = with_item itself texts text

-- the set without this text
abbrev pub without_text : List (List ℕ) → List ℕ → List (List ℕ)
without_text texts text = without_key itself texts text

-- the set of texts that come in any order
abbrev pub set_of : List (List ℕ) → List (List ℕ)
set_of [] = []
set_of (first ∷ others) = with_text (set_of others) first
