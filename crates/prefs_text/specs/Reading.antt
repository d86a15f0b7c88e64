-- Which value a text is, and why others are none.
use Rattle.std.specs.Prelude.{ℕ, ◌≡◌, ◌==◌, List, ◌++◌, codes}
use Rattle.std.specs.List.{before_first}
use Rattle.prefs_model.specs.declared.pref_value.PrefValue.{PrefValue}
use Rattle.prefs_text.specs.declared.value_kind.ValueKind.{ValueKind}
use Rattle.prefs_text.specs.declared.value_text_error.ValueTextError.{ValueTextError}
use Rattle.prefs_text.specs.declared.value_text_error.ValueTextError.TheVariants.{UnknownKind, BadText, NoMemory}
use Rattle.prefs_text.specs.Content.{IsContent}
use Rattle.prefs_text.specs.ValueKind.{IsScalar, kind_name, kind_of}

-- the text is the kind's name, a space, and what the value is
pub record IsValueText (text : List ℕ) (value : PrefValue) : Type 0 where
  pub content : List ℕ
  pub words : text ≡ kind_name (kind_of value) ++ codes " " ++ content
  pub reads : IsContent content value

-- the word before the first space
abbrev pub first_word : List ℕ → List ℕ
first_word text = before_first (λ byte. byte == 32) text

-- each refusal, with its cause; memory is needed for texts alone
abbrev pub IsRefusalOf : List ℕ → ValueTextError → Type 0
IsRefusalOf text UnknownKind = (kind : ValueKind) → ¬ (first_word text ≡ kind_name kind)
IsRefusalOf text BadText = ((kind : ValueKind) × (first_word text ≡ kind_name kind)) × ((value : PrefValue) → ¬ IsValueText text value)
IsRefusalOf text NoMemory = (kind : ValueKind) × (first_word text ≡ kind_name kind) × ¬ IsScalar kind
