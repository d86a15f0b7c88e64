use Rattle.std.specs.Prelude.{ℕ, ◌≤◌, List, length}
use Rattle.std.specs.Str.{IsUtf8}

-- a key is a text of at most 1,024 bytes
pub record IsKey (key : List ℕ) : Type 0 where
  pub text : IsUtf8 key
  pub within : length key ≤ 1024
