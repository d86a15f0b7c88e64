-- Entries, each a key with its value or none. Of those that came with one key the last counts. The lists here have the
-- last that came at their front, as `reverse` gives them, so that of one key the first counts.
use Rattle.std.specs.Prelude.{ℕ, ◌≡◌, List, Option, None, Some, IfSome, Result, Ok, Err}
use Rattle.std.specs.Option.{option_map}
use Rattle.std.specs.declared.cmp.Ordering.TheVariants.{Less}
use Rattle.prefs_model.specs.declared.pref_entry.PrefEntry.{PrefEntry}
use Rattle.prefs_model.specs.declared.pref_pair.PrefPair.{PrefPair}
use Rattle.prefs_model.specs.declared.pref_value.PrefValue.{PrefValue}
use Rattle.prefs_model.specs.Key.{IsKey}
use Rattle.prefs_model.specs.Value.{IsValue}
use Rattle.prefs_model.specs.Map.{value_at}
use Rattle.prefs_model.specs.Rising.{key_cmp, value_under}

-- the parts of an entry by which lists of any keyed things are searched
abbrev pub name_of : PrefEntry → List ℕ
name_of entry = entry.key

abbrev pub content_of : PrefEntry → Option PrefValue
content_of entry = entry.value

pub record IsEntry (entry : PrefEntry) : Type 0 where
  pub key : IsKey entry.key
  pub value : IfSome entry.value IsValue

-- what the first entry with the key says
abbrev pub first_with : List PrefEntry → List ℕ → Option (Option PrefValue)
first_with entries key = value_under name_of content_of entries key

-- the entry that the pair was made of
abbrev pub entry_of : PrefPair → PrefEntry
entry_of pair = record { key = pair.key; value = Some pair.value }

-- the map has at each key what the first entry with it says, which is a value
abbrev pub HasFirstValues : List PrefEntry → List PrefPair → Type 0
HasFirstValues entries pairs = (key : List ℕ) → first_with entries key ≡ option_map Some (value_at pairs key)

-- the least key whose first entry has no value
pub record IsLeastUnset (entries : List PrefEntry) (key : List ℕ) : Type 0 where
  pub unset : first_with entries key ≡ Some None
  pub least : (other : List ℕ) → first_with entries other ≡ Some None → key_cmp other key ≡ Less → ⊥

abbrev pub FirstValues : List PrefEntry → Result (List PrefPair) (List ℕ) → Type 0
FirstValues entries (Ok pairs) = HasFirstValues entries pairs
FirstValues entries (Err key) = IsLeastUnset entries key
