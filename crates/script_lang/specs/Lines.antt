-- The lines of a script: what stands between its newlines.
use Rattle.std.specs.Prelude.{ℕ, ◌==◌, List, [], ◌∷◌}
use Rattle.std.specs.List.{slice_split}

-- behind the last newline nothing begins a line
abbrev pub without_empty_end : List (List ℕ) → List (List ℕ)
without_empty_end [] = []
without_empty_end ([] ∷ []) = []
without_empty_end (part ∷ more) = part ∷ without_empty_end more

unfoldable pub lines_of : List ℕ → List (List ℕ)
lines_of bytes = without_empty_end (slice_split (λ byte. byte == 10) bytes)
