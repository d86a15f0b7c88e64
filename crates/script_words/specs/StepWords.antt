-- Which words are a step of an edit.
use Rattle.std.specs.Prelude.{ℕ, ℤ, ◌≡◌, List, [], ◌∷◌}
use Rattle.std.specs.Fmt.{signed_decimal}
use Rattle.std.specs.Int.{Width, w32, w64}
use Rattle.std.specs.Int.RustNames.{FitsSigned}
use Rattle.prefs_edit.specs.declared.edit_step.EditStep.{EditStep}
use Rattle.prefs_edit.specs.declared.edit_step.EditStep.TheVariants.{Set, Remove, Clear, AddInt, AddLong, Toggle, InsertText, RemoveText, Require}
use Rattle.prefs_model.specs.declared.pref_value.PrefValue.{PrefValue}
use Rattle.prefs_text.specs.Content.{IsContent, IsQuoted}
use Rattle.prefs_text.specs.ValueKind.{kind_name, kind_of}
use Rattle.script_words.specs.Keys.{IsKeyWord}
use Rattle.script_words.specs.StepKind.{kind_of_step, step_word}

-- `KEY`
pub record AreKey (words : List (List ℕ)) (key : List ℕ) : Type 0 where
  pub word : List ℕ
  pub row : words ≡ word ∷ []
  pub is_key : IsKeyWord word key

-- `KEY KIND REST`, where REST is one word, of a list too
pub record AreKeyAndValue (words : List (List ℕ)) (key : List ℕ) (value : PrefValue) : Type 0 where
  pub word : List ℕ
  pub content : List ℕ
  pub row : words ≡ word ∷ kind_name (kind_of value) ∷ content ∷ []
  pub is_key : IsKeyWord word key
  pub is_value : IsContent content value

-- `KEY N`, where N is a number of this width
pub record AreKeyAndAmount (width : Width) (words : List (List ℕ)) (key : List ℕ) (amount : ℤ) : Type 0 where
  pub word : List ℕ
  pub row : words ≡ word ∷ signed_decimal amount ∷ []
  pub is_key : IsKeyWord word key
  pub fits : FitsSigned width amount

-- `KEY TEXT`
pub record AreKeyAndText (words : List (List ℕ)) (key text : List ℕ) : Type 0 where
  pub word : List ℕ
  pub quoted : List ℕ
  pub row : words ≡ word ∷ quoted ∷ []
  pub is_key : IsKeyWord word key
  pub is_text : IsQuoted quoted text

-- what stands behind the step's name
abbrev pub Follow : List (List ℕ) → EditStep → Type 0
Follow words (Set key value) = AreKeyAndValue words key value
Follow words (Remove key) = AreKey words key
Follow words Clear = words ≡ []
Follow words (AddInt key amount) = AreKeyAndAmount w32 words key amount
Follow words (AddLong key amount) = AreKeyAndAmount w64 words key amount
Follow words (Toggle key) = AreKey words key
Follow words (InsertText key text) = AreKeyAndText words key text
Follow words (RemoveText key text) = AreKeyAndText words key text
Follow words (Require key value) = AreKeyAndValue words key value

-- the words are this step
pub record AreStepWords (words : List (List ℕ)) (step : EditStep) : Type 0 where
  pub behind : List (List ℕ)
  pub name : words ≡ step_word (kind_of_step step) ∷ behind
  pub follow : Follow behind step
