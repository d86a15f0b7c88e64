-- Which words have the form of a name, and which of these name nothing.
use Rattle.std.specs.Prelude.{ℕ, ◌≡◌, ◌≤◌, ◌⊎◌, List, [], ◌∷◌, All, length, codes}

-- a letter from a to z
abbrev pub IsLetter : ℕ → Type 0
IsLetter byte = (97 ≤ byte) × (byte ≤ 122)

abbrev pub IsDigit : ℕ → Type 0
IsDigit byte = (48 ≤ byte) × (byte ≤ 57)

-- a letter, and up to 15 letters or digits
pub record IsName (word : List ℕ) : Type 0 where
  pub first : ℕ
  pub others : List ℕ
  pub parts : word ≡ first ∷ others
  pub letter : IsLetter first
  pub letters_or_digits : All (λ byte. IsLetter byte ⊎ IsDigit byte) others
  pub few : length others ≤ 15

-- the words that begin a line or stand in it, the calls of a client, and the device calls that a line can name
abbrev pub reserved : List (List ℕ)
reserved =
    codes "file" ∷ codes "empty" ∷ codes "none" ∷ codes "history" ∷ codes "handler" ∷ codes "legacy"
    ∷ codes "migrate" ∷ codes "copy" ∷ codes "rename" ∷ codes "node" ∷ codes "client" ∷ codes "on" ∷ codes "fault"
    ∷ codes "fuse" ∷ codes "die" ∷ codes "go" ∷ codes "stop"
    ∷ codes "update" ∷ codes "read" ∷ codes "flow" ∷ codes "post" ∷ codes "restart"
    ∷ codes "read_main" ∷ codes "create" ∷ codes "append" ∷ codes "sync" ∷ codes "sync_folder"
    ∷ codes "legacy_read" ∷ codes "legacy_clear" ∷ []
