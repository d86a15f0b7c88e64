-- Which values one bare word can be.
use Rattle.std.specs.Prelude.{ℕ, ◌≡◌, List}
use Rattle.prefs_model.specs.declared.pref_value.PrefValue.{PrefValue}
use Rattle.prefs_model.specs.Value.{IsValue}
use Rattle.prefs_text.specs.declared.value_kind.ValueKind.{ValueKind}
use Rattle.prefs_text.specs.ValueKind.{kind_of, IsScalar}
use Rattle.prefs_text.specs.ValueText.{plain_text}

-- the word is exactly what is printed of the value, which has this kind
pub record IsPlainWord (kind : ValueKind) (word : List ℕ) (value : PrefValue) : Type 0 where
  pub scalar : IsScalar kind
  pub of_kind : kind_of value ≡ kind
  pub valid : IsValue value
  pub text : word ≡ plain_text value
