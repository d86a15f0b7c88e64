-- A scratch file that is being filled.
use Rattle.std.specs.Prelude.{ℕ, List, ◌++◌, take, drop}

-- the bytes that are written, and those that are to follow
pub record Filling : Type 0 where
  pub written : List ℕ
  pub rest : List ℕ

-- what the next append writes: 4,096 bytes, or all that are left
abbrev pub next_piece : Filling → List ℕ
next_piece plan = take 4096 plan.rest

-- once the next piece is written
abbrev pub filled_more : Filling → Filling
filled_more plan = record { written = plan.written ++ next_piece plan; rest = drop 4096 plan.rest }
