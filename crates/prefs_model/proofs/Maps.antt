-- The laws of a map of settings.
use Rattle.std.proofs.Common.{◌≡◌, ◌≢◌, ℕ, List, All, is_some, None, [], ◌∷◌, ◌++◌, Some, ◌∙◌, ap, subst, sym, arith, length-append}
use Rattle.std.proofs.lemmas.List.{get_or_append_left}
use Rattle.prefs_model.specs.declared.pref_pair.PrefPair.{PrefPair}
use Rattle.prefs_model.specs.declared.pref_value.PrefValue.{PrefValue}
use Rattle.prefs_model.specs.Value.{IsValue}
use Rattle.prefs_model.specs.Map.{IsKey, IsPair, IsMap, key_of, has_value, value_at, with_value, without_value}
use Rattle.prefs_model.specs.Rising.{IsSortedList}
use Rattle.prefs_model.proofs.Rising.{each_found, IsRising-front, IsRising-with_item, All-with_item, with_item_end, with_item_found, value_with_item, value_with_other, without_key_absent, value_without_key, value_without_other, is_some-value_under, IsSortedList-without_key, same_from_values}

pub IsMap-sorted : (pairs : List PrefPair) → IsSortedList key_of IsPair pairs → IsMap pairs
IsMap-sorted pairs sorted = record {
  rising = sorted.rising;
  keys = λ place d lt. (sorted.valid place d lt).key;
  values = λ place d lt. (sorted.valid place d lt).value;
}

pub IsMap-with_value : (pairs : List PrefPair) (key : List ℕ) (value : PrefValue) → IsMap pairs → IsKey key → IsValue value → IsMap (with_value pairs key value)
IsMap-with_value pairs key value map is_key is_value =
    let pair : PrefPair = record { key = key; value = value } in
    record {
      rising = IsRising-with_item key_of pairs pair map.rising;
      keys = All-with_item key_of (λ pair. IsKey pair.key) pairs pair map.keys is_key;
      values = All-with_item key_of (λ pair. IsValue pair.value) pairs pair map.values is_value;
    }

-- the key has its new value
pub value_at-with_value : (pairs : List PrefPair) (key : List ℕ) (value : PrefValue) → value_at (with_value pairs key value) key ≡ Some value
value_at-with_value pairs key value = value_with_item key_of (λ pair. pair.value) pairs (record { key = key; value = value })

-- every other key has the value that it had
pub value_at-with_other : (pairs : List PrefPair) (key : List ℕ) (value : PrefValue) (other : List ℕ) → other ≢ key → value_at (with_value pairs key value) other ≡ value_at pairs other
value_at-with_other pairs key value other = value_with_other key_of (λ pair. pair.value) pairs (record { key = key; value = value }) other

one_pair : (a b : PrefPair) → a.key ≡ b.key → a.value ≡ b.value → a ≡ b
one_pair a b keys values = subst (λ value. a ≡ record { key = b.key; value = value }) values (ap (λ key. let pair : PrefPair = record { key = key; value = a.value } in pair) keys)

-- a value that the key has already changes nothing
pub with_value_same : (pairs : List PrefPair) (key : List ℕ) (value : PrefValue) → IsMap pairs → value_at pairs key ≡ Some value → with_value pairs key value ≡ pairs
with_value_same pairs key value map found = with_item_found key_of (λ pair. pair.value) one_pair pairs (record { key = key; value = value }) map.rising found

pub IsMap-without_value : (pairs : List PrefPair) (key : List ℕ) → IsMap pairs → IsMap (without_value pairs key)
IsMap-without_value pairs key map =
    let valid : All IsPair pairs = λ place d lt. record { key = map.keys place d lt; value = map.values place d lt } in
    IsMap-sorted (without_value pairs key) (IsSortedList-without_key key_of IsPair pairs key (record { rising = map.rising; valid = valid }))

-- the key is gone
pub value_at-without_value : (pairs : List PrefPair) (key : List ℕ) → value_at (without_value pairs key) key ≡ None
value_at-without_value pairs key = value_without_key key_of (λ pair. pair.value) pairs key

-- every other key has the value that it had
pub value_at-without_other : (pairs : List PrefPair) (key other : List ℕ) → other ≢ key → value_at (without_value pairs key) other ≡ value_at pairs other
value_at-without_other pairs key other = value_without_other key_of (λ pair. pair.value) pairs key other

-- a key that has no value is not there
pub has_value-value_at : (pairs : List PrefPair) (key : List ℕ) → has_value pairs key ≡ is_some (value_at pairs key)
has_value-value_at pairs key = sym (is_some-value_under key_of (λ pair. pair.value) pairs key)

-- a key that has no value takes nothing out
pub without_value_absent : (pairs : List PrefPair) (key : List ℕ) → value_at pairs key ≡ None → without_value pairs key ≡ pairs
without_value_absent pairs key absent = without_key_absent key_of pairs key (has_value-value_at pairs key ∙ ap is_some absent)

-- a pair with a greater key than all goes to the end
pub with_value_end : (pairs : List PrefPair) (pair : PrefPair) → IsMap (pairs ++ pair ∷ []) → with_value pairs pair.key pair.value ≡ pairs ++ pair ∷ []
with_value_end pairs pair map = with_item_end key_of pairs pair map.rising

All-front : (P : PrefPair → Type 0) (pairs more : List PrefPair) → All P (pairs ++ more) → All P pairs
All-front P pairs more all k d lt = subst P (get_or_append_left pairs more d k lt) (all k d (omega (arith, length-append pairs more)))

-- a front of a map is a map
pub IsMap-front : (pairs more : List PrefPair) → IsMap (pairs ++ more) → IsMap pairs
IsMap-front pairs more map = record {
  rising = IsRising-front key_of pairs more map.rising;
  keys = All-front (λ pair. IsKey pair.key) pairs more map.keys;
  values = All-front (λ pair. IsValue pair.value) pairs more map.values;
}

-- each pair gives the value at its key
pub value_at-pair : (pairs : List PrefPair) → IsMap pairs → All (λ pair. value_at pairs pair.key ≡ Some pair.value) pairs
value_at-pair pairs map = each_found key_of (λ pair. pair.value) pairs map.rising

-- maps that have the same value at each key are one map
pub same_from_value_at : (a b : List PrefPair) → IsMap a → IsMap b → ((key : List ℕ) → value_at a key ≡ value_at b key) → a ≡ b
same_from_value_at a b map_a map_b same = same_from_values key_of (λ pair. pair.value) one_pair a b map_a.rising map_b.rising same
