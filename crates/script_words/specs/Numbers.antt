-- Which words are numbers.
use Rattle.std.specs.Prelude.{ℕ, ◌≡◌, ◌≤◌, List}
use Rattle.std.specs.Fmt.{decimal}

-- the word is the number in decimal, which is within these bounds
pub record IsNumberWithin (word : List ℕ) (least most number : ℕ) : Type 0 where
  pub text : word ≡ decimal number
  pub low : least ≤ number
  pub high : number ≤ most
