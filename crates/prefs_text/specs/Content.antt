-- Which value stands behind a kind's name.
use Rattle.std.specs.Prelude.{ℕ, ◌≡◌, ◌≢◌, List, ◌++◌, codes, map, All, Some}
use Rattle.serde_json.specs.Data.{string, array}
use Rattle.serde_json.specs.Read.{read}
use Rattle.serde_json.specs.View.{items_of}
use Rattle.prefs_model.specs.declared.pref_value.PrefValue.{PrefValue}
use Rattle.prefs_model.specs.declared.pref_value.PrefValue.TheVariants.{Text, Texts}
use Rattle.prefs_model.specs.Texts.{set_of}
use Rattle.prefs_text.specs.declared.value_kind.ValueKind.{ValueKind}
use Rattle.prefs_text.specs.declared.value_text_error.ValueTextError.{ValueTextError}
use Rattle.prefs_text.specs.declared.value_text_error.ValueTextError.TheVariants.{UnknownKind, BadText, NoMemory}
use Rattle.prefs_text.specs.ValueKind.{kind_of}
use Rattle.prefs_text.specs.PlainWord.{IsPlainWord}

-- the text begins and ends so
abbrev pub IsBetween : List ℕ → List ℕ → List ℕ → Type 0
IsBetween first last text = (inner : List ℕ) × (text ≡ first ++ inner ++ last)

-- no tab, end of a line or carriage return
abbrev pub IsInLine : ℕ → Type 0
IsInLine byte = (byte ≢ 9) × (byte ≢ 10) × (byte ≢ 13)

-- a JSON string, with nothing round it
pub record IsQuoted (json text : List ℕ) : Type 0 where
  pub marks : IsBetween (codes "\"") (codes "\"") json
  pub reads : read json ≡ Some (string text)

-- a JSON array of strings, with nothing round it and no blanks within but spaces
pub record IsListOf (json : List ℕ) (texts : List (List ℕ)) : Type 0 where
  pub brackets : IsBetween (codes "[") (codes "]") json
  pub line : All IsInLine json
  pub reads : read json ≡ Some (array (items_of (map string texts)))

-- the texts of a list may come in any order, and more than once
pub record IsSetList (json : List ℕ) (set : List (List ℕ)) : Type 0 where
  pub texts : List (List ℕ)
  pub list : IsListOf json texts
  pub sorted : set ≡ set_of texts

-- a scalar is exactly what is printed of it
abbrev pub IsContent : List ℕ → PrefValue → Type 0
IsContent content (Text text) = IsQuoted content text
IsContent content (Texts set) = IsSetList content set
IsContent content value = IsPlainWord (kind_of value) content value

pub record IsContentOf (kind : ValueKind) (content : List ℕ) (value : PrefValue) : Type 0 where
  pub of_kind : kind_of value ≡ kind
  pub reads : IsContent content value

-- bad text for this cause, or want of memory where there can be one
abbrev pub IsBadOrNoMemory : (cause wants_memory : Type 0) → ValueTextError → Type 0
IsBadOrNoMemory cause wants_memory UnknownKind = ⊥
IsBadOrNoMemory cause wants_memory BadText = cause
IsBadOrNoMemory cause wants_memory NoMemory = wants_memory
