-- Which words are a command, and what they ask for.
use Rattle.std.specs.Prelude.{ℕ, ◌≡◌, ◌≤◌, List, [], ◌∷◌, length, map, codes, String, string_bytes}
use Rattle.std.specs.declared.alloc.Global.{Global}
use Rattle.prefs_model.specs.Texts.{set_of}
use Rattle.prefs_model.specs.declared.pref_value.PrefValue.{PrefValue}
use Rattle.prefs_model.specs.declared.pref_value.PrefValue.TheVariants as value
use Rattle.prefs_text.specs.PlainWord.{IsPlainWord}
use Rattle.prefs_text.specs.ValueKind.{kind_name}
use Rattle.prefs_text.specs.declared.value_kind.ValueKind.{ValueKind}
use Rattle.prefs_text.specs.declared.value_kind.ValueKind.TheVariants.{Text, Texts}
use Rattle.command_words.specs.Words.{Given}
use Rattle.command_words.specs.declared.command.Command.{Command}
use Rattle.command_words.specs.declared.command.Command.TheVariants.{Set, Get, Remove, Show, Replay}

abbrev pub texts : List (String Global) → List (List ℕ)
texts words = map string_bytes words

-- a word that can be a key
abbrev pub IsKeyWord : List ℕ → Type 0
IsKeyWord word = length word ≤ 1024

-- the words of a value: a text is its word as it stands, a set is of any number of words
abbrev pub IsValueRow : ValueKind → List (List ℕ) → PrefValue → Type 0
IsValueRow Text words given = (text : List ℕ) × (words ≡ text ∷ []) × (given ≡ value.Text text)
IsValueRow Texts words given = given ≡ value.Texts (set_of words)
IsValueRow kind words given = (word : List ℕ) × (words ≡ word ∷ []) × IsPlainWord kind word given

-- `KEY KIND [VALUE]...`
pub record IsSetRow (words : List (List ℕ)) (key : List ℕ) (given : PrefValue) : Type 0 where
  pub kind : ValueKind
  pub values : List (List ℕ)
  pub row : words ≡ key ∷ kind_name kind ∷ values
  pub key_word : IsKeyWord key
  pub value : IsValueRow kind values given

-- `KEY`
pub record IsKeyRow (words : List (List ℕ)) (key : List ℕ) : Type 0 where
  pub row : words ≡ key ∷ []
  pub key_word : IsKeyWord key

-- the words that are given to a command fit its row
abbrev pub IsRow : List (List ℕ) → Command → Type 0
IsRow words (Set key given) = IsSetRow words key given
IsRow words (Get key) = IsKeyRow words key
IsRow words (Remove key) = IsKeyRow words key
IsRow words Show = words ≡ []
IsRow words Replay = words ≡ []

abbrev pub name_of : Command → List ℕ
name_of (Set key given) = codes "set"
name_of (Get key) = codes "get"
name_of (Remove key) = codes "remove"
name_of Show = codes "show"
name_of Replay = codes "replay"

-- the words behind the name fit: nothing follows `show` and `replay`, and for the others the first `--` is taken away
abbrev pub Follow : List (List ℕ) → Command → Type 0
Follow words Show = words ≡ []
Follow words Replay = words ≡ []
Follow words command = (given : List (List ℕ)) × Given words given × IsRow given command

-- the words ask for this
pub record Asks (words : List (List ℕ)) (command : Command) : Type 0 where
  pub behind : List (List ℕ)
  pub name : words ≡ name_of command ∷ behind
  pub follow : Follow behind command

-- the words are no command
abbrev pub AsksNothing : List (List ℕ) → Type 0
AsksNothing words = (command : Command) → Asks words command → ⊥
