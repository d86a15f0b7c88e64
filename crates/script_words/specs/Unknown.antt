-- Words in the place of a step's name or of a kind that are none.
use Rattle.std.specs.Prelude.{ℕ, ◌≡◌, ◌≢◌, ◌⊎◌, List, ◌∷◌, codes}
use Rattle.prefs_text.specs.ValueKind.{kind_name}
use Rattle.prefs_text.specs.declared.value_kind.ValueKind.{ValueKind}
use Rattle.script_words.specs.StepKind.{step_word}
use Rattle.script_words.specs.declared.step_kind.StepKind.{StepKind}
use Rattle.script_words.specs.declared.step_kind.StepKind.TheVariants.{Set, Require}

-- the word names no step, and is not `many`
abbrev pub NamesNoStep : List ℕ → Type 0
NamesNoStep word = (word ≢ codes "many") × ((kind : StepKind) → word ≢ step_word kind)

abbrev pub NamesNoKind : List ℕ → Type 0
NamesNoKind word = (kind : ValueKind) → word ≢ kind_name kind

-- a kind stands behind the key
abbrev pub TakesKind : List ℕ → Type 0
TakesKind name = (name ≡ step_word Set) ⊎ (name ≡ step_word Require)

-- the second of the words behind the name is in the place of a kind
pub record HasUnknownKind (behind : List (List ℕ)) : Type 0 where
  pub key : List ℕ
  pub kind : List ℕ
  pub rest : List (List ℕ)
  pub row : behind ≡ key ∷ kind ∷ rest
  pub unknown : NamesNoKind kind

-- of the words of a step the first is in the place of its name
pub record HasUnknownWord (words : List (List ℕ)) : Type 0 where
  pub name : List ℕ
  pub behind : List (List ℕ)
  pub row : words ≡ name ∷ behind
  pub unknown : NamesNoStep name ⊎ (TakesKind name × HasUnknownKind behind)
