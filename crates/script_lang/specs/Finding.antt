-- What a look-up of a name answers.
use Rattle.std.specs.Prelude.{ℕ, ◌≡◌, List, Contains, Option, Some, MatchOption, slice_get}

-- the place of the name, counted from 0, or none where it is not there
abbrev pub Finds : List (List ℕ) → List ℕ → Option ℕ → Type 0
Finds names name found = MatchOption found (¬ Contains names name) (λ place. slice_get names place ≡ Some name)
