-- The parts of words that are cut at each word `;`.
use Rattle.std.specs.Prelude.{ℕ, Bool, List, codes, map}
use Rattle.std.specs.Borrow.{Bor}
use Rattle.std.specs.List.{slice_split}
use Rattle.std.specs.Str.{bytes_eq}
use Rattle.script_words.specs.Words.{texts_at}

abbrev pub is_semicolon : List ℕ → Bool
is_semicolon word = bytes_eq word (codes ";")

abbrev pub parts_of : List (List ℕ) → List (List (List ℕ))
parts_of words = slice_split is_semicolon words

abbrev pub parts_at : List (Bor (List (Bor (List ℕ)))) → List (List (List ℕ))
parts_at parts = map (λ part. texts_at part.now) parts
