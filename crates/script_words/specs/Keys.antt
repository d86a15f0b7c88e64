-- Which words are keys.
use Rattle.std.specs.Prelude.{ℕ, ◌≤◌, List, length}
use Rattle.prefs_text.specs.Content.{IsQuoted}

-- the word quotes a text of at most 1,024 bytes
pub record IsKeyWord (word key : List ℕ) : Type 0 where
  pub quoted : IsQuoted word key
  pub within : length key ≤ 1024
