-- What writing to a sink adds to it.
use Rattle.std.specs.Prelude.{ℕ, ◌≡◌, ◌<◌, ◌≤◌, ◌++◌, Bool, IsTrue, List, length, take, Result, Ok, Err}

-- what a write of a piece answers, of a sink that held these bytes
abbrev pub Writes : {E : Type 0} → Bool → List ℕ → List ℕ → Result ℕ E → List ℕ → Type 0
Writes told old piece (Ok taken) new = (taken ≤ length piece) × (0 < length piece → 0 < taken) × (IsTrue told → new ≡ old ++ take taken piece)
Writes told old piece (Err e) new = IsTrue told → new ≡ old

-- the sink gained a prefix of the piece
pub record GainsPrefix (piece old new : List ℕ) : Type 0 where
  pub prefix : List ℕ
  pub rest : List ℕ
  pub parts : piece ≡ prefix ++ rest
  pub gained : new ≡ old ++ prefix

-- the sink took a prefix of the piece, and all of it where nothing failed
abbrev pub WritesAll : {T E : Type 0} → List ℕ → List ℕ → Result T E → List ℕ → Type 0
WritesAll old piece (Ok done) new = new ≡ old ++ piece
WritesAll old piece (Err e) new = GainsPrefix piece old new
