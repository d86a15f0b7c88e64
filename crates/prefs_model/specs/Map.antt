-- A map of settings: pairs of a key and a value, whose keys rise strictly, byte by byte.
use Rattle.std.specs.Prelude.{ℕ, List, Bool, Option, All}
use Rattle.prefs_model.specs.declared.pref_pair.PrefPair.{PrefPair}
use Rattle.prefs_model.specs.declared.pref_value.PrefValue.{PrefValue}
use Rattle.prefs_model.specs.Value.{IsValue}
use Rattle.prefs_model.specs.Rising.{IsRising, has_key, value_under, with_item, without_key}
pub use Rattle.prefs_model.specs.Key.{IsKey}
pub use Rattle.prefs_model.specs.Rising.{key_cmp}

abbrev pub key_of : PrefPair → List ℕ
key_of pair = pair.key

pub record IsPair (pair : PrefPair) : Type 0 where
  pub key : IsKey pair.key
  pub value : IsValue pair.value

pub record IsMap (pairs : List PrefPair) : Type 0 where
  pub rising : IsRising key_of pairs
  pub keys : All (λ pair. IsKey pair.key) pairs
  pub values : All (λ pair. IsValue pair.value) pairs

-- the value that a map has at a key, if any
abbrev pub value_at : List PrefPair → List ℕ → Option PrefValue
value_at pairs key = value_under key_of (λ pair. pair.value) pairs key

abbrev pub has_value : List PrefPair → List ℕ → Bool
has_value pairs key = has_key key_of pairs key

-- the map once the key has this value
abbrev pub with_value : List PrefPair → List ℕ → PrefValue → List PrefPair
with_value pairs key value = with_item key_of pairs (record { key = key; value = value })

-- the map once the key has no value
abbrev pub without_value : List PrefPair → List ℕ → List PrefPair
without_value pairs key = without_key key_of pairs key
