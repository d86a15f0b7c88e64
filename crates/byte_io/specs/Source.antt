-- What reading from a source takes.
use Rattle.std.specs.Prelude.{ℕ, ◌≡◌, ◌<◌, ◌≤◌, ◌++◌, Bool, IsTrue, List, [], take, Result, Ok, Err}

-- these many first bytes of what was left stand at the front of the buffer, and no longer in what is left
pub record Takes (old : List ℕ) (room taken : ℕ) (buffer new : List ℕ) : Type 0 where
  pub bytes : old ≡ take taken buffer ++ new
  pub end : 0 < room → taken ≡ 0 → old ≡ []

-- what a read answers, of a source that had these bytes left and a buffer with this room
abbrev pub Reads : {E : Type 0} → Bool → List ℕ → ℕ → Result ℕ E → List ℕ → List ℕ → Type 0
Reads told old room (Ok taken) buffer new = (taken ≤ room) × (IsTrue told → Takes old room taken buffer new)
Reads told old room (Err e) buffer new = IsTrue told → new ≡ old
