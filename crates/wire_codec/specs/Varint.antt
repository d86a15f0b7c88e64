-- A varint: seven bits of a number in each byte, the least first. A byte from 128 on says that another
-- follows (Protocol Buffers encoding guide, "Base 128 Varints").
use Rattle.std.specs.Prelude.{◌≡◌, ℕ, ◌+◌, ◌*◌, ◌%◌, ◌^◌, ◌<◌, ◌≤◌, List, [], ◌∷◌, ◌++◌, length}
use Rattle.std.specs.List.{AllByRecursion}

-- the bytes spell the number, however many they are
pub data Spells : List ℕ → ℕ → Type 0 where
  last : {b : ℕ} → b < 128 → Spells (b ∷ []) b
  more : {b high n : ℕ} {bytes : List ℕ} → 128 ≤ b → b < 256 → Spells bytes high → n + 128 ≡ b + 128 * high → Spells (b ∷ bytes) n

-- no bytes spell the number that are fewer
pub record IsShortest (bytes : List ℕ) (n : ℕ) : Type 0 where
  pub spelt : Spells bytes n
  pub least : (other : List ℕ) → Spells other n → length bytes ≤ length other

-- At most ten bytes, and of the number that they spell the low 64 bits. Zeros at the high end are allowed.
pub record IsVarint (bytes : List ℕ) (n : ℕ) : Type 0 where
  pub whole : ℕ
  pub spelt : Spells bytes whole
  pub short : length bytes ≤ 10
  pub low : n ≡ whole % 2 ^ 64

-- each byte says that another follows
abbrev pub GoesOn : List ℕ → Type 0
GoesOn bytes = AllByRecursion (λ b. 128 ≤ b) bytes

-- the bytes are the front of a varint, which the end cuts; there may be none
pub record IsCut (bytes : List ℕ) : Type 0 where
  pub short : length bytes < 10
  pub goes_on : GoesOn bytes

-- ten bytes in a row say that another follows
pub record IsTooLong (bytes : List ℕ) : Type 0 where
  pub ten : List ℕ
  pub rest : List ℕ
  pub parts : bytes ≡ ten ++ rest
  pub count : length ten ≡ 10
  pub goes_on : GoesOn ten
