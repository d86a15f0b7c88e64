-- The line of words that is read as a command: its name, `--`, and the words that are given to it.
use Rattle.std.specs.Prelude.{ℕ, ◌≡◌, ◌⊎◌, List, [], ◌∷◌, codes, map}
use Rattle.std.specs.Borrow.{Bor}
use Rattle.command_words.specs.Command.{IsRow, name_of}
use Rattle.command_words.specs.declared.command.Command.{Command}

abbrev pub texts_at : List (Bor (List ℕ)) → List (List ℕ)
texts_at words = map (λ word. word.now) words

-- the commands to which words are given
abbrev pub TakesWords : List ℕ → Type 0
TakesWords name = (name ≡ codes "set") ⊎ (name ≡ codes "get") ⊎ (name ≡ codes "remove")

-- the commands to which none are
abbrev pub StandsAlone : List ℕ → Type 0
StandsAlone name = (name ≡ codes "show") ⊎ (name ≡ codes "replay")

-- the words may stand behind the name
abbrev pub MayFollow : List ℕ → List (List ℕ) → Type 0
MayFollow name words = TakesWords name ⊎ (StandsAlone name × (words ≡ []))

-- the name is one of the table, and so many words may follow it
pub record IsLine (line : List (List ℕ)) : Type 0 where
  pub name : List ℕ
  pub given : List (List ℕ)
  pub words : line ≡ name ∷ codes "--" ∷ given
  pub fits : MayFollow name given

-- the line asks for this
pub record LineAsks (line : List (List ℕ)) (command : Command) : Type 0 where
  pub given : List (List ℕ)
  pub words : line ≡ name_of command ∷ codes "--" ∷ given
  pub row : IsRow given command
