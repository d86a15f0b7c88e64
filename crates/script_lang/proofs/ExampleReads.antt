-- What the files of the examples read as is tested outright.
use Rattle.std.proofs.Common.{◌≡◌, ℕ, pos, List, [], ◌∷◌, refl, ap}
use Rattle.prefs_model.specs.declared.pref_pair.PrefPair.{PrefPair}
use Rattle.prefs_model.specs.declared.pref_value.PrefValue.TheVariants.{Int}
use Rattle.shelf.proofs.Tests.{none}
use Rattle.script_lang.specs.TruthExamples.{basis, encoded}
use Rattle.script_lang.specs.TruthTests.{ReadingTests}
use Rattle.script_lang.proofs.EditTests.{one_bytes}

-- all bytes read as a map, such as that of their numbers
pub numbers : List ℕ → List PrefPair
numbers [] = []
numbers (n ∷ ns) = record { key = []; value = Int (pos n) } ∷ numbers ns

pub numbers_read : (bytes : List ℕ) → bytes ≡ encoded (numbers bytes)
unfolding numbers
numbers_read [] = refl
numbers_read (n ∷ ns) = ap (λ (ms : List ℕ). n ∷ ms) (numbers_read ns)

pub some_map : (bytes : List ℕ) → ((map : List PrefPair) → bytes ≡ encoded map → ⊥) → ⊥
some_map bytes unread = unread (numbers bytes) (numbers_read bytes)

abbrev pub example_reads : ReadingTests basis
example_reads = record { reads = λ bytes map. one_bytes bytes (encoded map); reads_none = λ bytes. none (some_map bytes) }
