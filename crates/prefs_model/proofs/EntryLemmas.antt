-- Entries whose keys rise, taken one after the other as pairs.
use Rattle.std.proofs.Common.{◌≡◌, ℕ, List, [], ◌∷◌, ◌++◌, map, reverse, Bool, true, false, Option, Some, None, All, refl, sym, ◌∙◌, ap, subst, append_assoc, if◌then◌else◌}
use Rattle.std.specs.Option.{option_map}
use Rattle.std.specs.Ordering.{is_eq}
use Rattle.std.specs.declared.cmp.Ordering.TheVariants.{Less}
use Rattle.std.proofs.lemmas.List.{append-nil, reverse-append}
use Rattle.std.proofs.lemmas.List.Elements.{All-nil, All-append, All-cons}
use Rattle.std.proofs.lemmas.Option.{none-some, same_Some}
use Rattle.prefs_model.specs.declared.pref_entry.PrefEntry.{PrefEntry}
use Rattle.prefs_model.specs.declared.pref_pair.PrefPair.{PrefPair}
use Rattle.prefs_model.specs.declared.pref_value.PrefValue.{PrefValue}
use Rattle.prefs_model.specs.Map.{key_of, IsPair, value_at}
use Rattle.prefs_model.specs.Entry.{name_of, content_of, first_with, entry_of, HasFirstValues, IsLeastUnset}
use Rattle.prefs_model.specs.Rising.{key_cmp, IsRising, IsSortedList, value_under}
use Rattle.prefs_model.proofs.Keys.{greater_from_less, less_trans, key_cmp_same}
use Rattle.prefs_model.proofs.Rising.{value_below, value_under-found}

pub rising_pairs : (pairs : List PrefPair) → IsRising name_of (map entry_of pairs) → IsRising key_of pairs
rising_pairs [] rising = tt
rising_pairs (pair ∷ []) rising = (tt, tt)
rising_pairs (pair ∷ next ∷ pairs) rising = (rising.0, rising_pairs (next ∷ pairs) rising.1)

pub first_of_pairs : (pairs : List PrefPair) → HasFirstValues (map entry_of pairs) pairs
first_of_pairs [] key = refl
first_of_pairs (pair ∷ pairs) key =
    elim (is_eq (key_cmp key pair.key)) as (λ b. (if b then Some (Some pair.value) else first_with (map entry_of pairs) key) ≡ option_map Some (if b then Some pair.value else value_at pairs key)) [
      | true ↦ refl
      | false ↦ first_of_pairs pairs key
    ]

abbrev unset : List ℕ → PrefEntry
unset key = record { key = key; value = None }

-- an entry without a value behind pairs
abbrev behind_pairs : List PrefPair → List ℕ → List PrefEntry → List PrefEntry
behind_pairs pairs key rest = map entry_of pairs ++ unset key ∷ rest

before_unset : (first : PrefPair) (pairs : List PrefPair) (key : List ℕ) (rest : List PrefEntry) → IsRising name_of (behind_pairs (first ∷ pairs) key rest) → key_cmp first.key key ≡ Less
before_unset first [] key rest rising = rising.0
before_unset first (next ∷ pairs) key rest rising = less_trans first.key next.key key rising.0 (before_unset next pairs key rest rising.1)

unset_found : (pairs : List PrefPair) (key : List ℕ) (rest : List PrefEntry) → IsRising name_of (behind_pairs pairs key rest) → first_with (behind_pairs pairs key rest) key ≡ Some None
unset_found [] key rest rising = rw (key_cmp_same key) refl
unset_found (pair ∷ pairs) key rest rising = rw (greater_from_less pair.key key (before_unset pair pairs key rest rising)) (unset_found pairs key rest rising.1)

set_not_unset : (value : PrefValue) → Some (Some value) ≡ Some None → ⊥
set_not_unset value e = none-some value (sym (same_Some (Some value) None e))

none_less_by : (b : Bool) (pair : PrefPair) (found : Option (Option PrefValue)) → (if b then Some (Some pair.value) else found) ≡ Some None → (found ≡ Some None → ⊥) → ⊥
none_less_by true pair found is behind = set_not_unset pair.value is
none_less_by false pair found is behind = behind is

none_less : (pairs : List PrefPair) (key : List ℕ) (rest : List PrefEntry) → IsRising name_of (behind_pairs pairs key rest) → (other : List ℕ) → first_with (behind_pairs pairs key rest) other ≡ Some None → key_cmp other key ≡ Less → ⊥
none_less [] key rest rising other is less = none-some None (sym (value_below name_of content_of (unset key ∷ rest) other rising less) ∙ is)
none_less (pair ∷ pairs) key rest rising other is less =
    none_less_by (is_eq (key_cmp other pair.key)) pair (first_with (behind_pairs pairs key rest) other) is (λ behind. none_less pairs key rest rising.1 other behind less)

-- ---- the loop

-- the pairs were taken from the entries, and those left stand in turned order
pub record Taken (all left : List PrefEntry) (pairs : List PrefPair) : Type 0 where
  pub parts : all ≡ map entry_of pairs ++ reverse left
  pub valid : All IsPair pairs

map_end : (pairs : List PrefPair) (pair : PrefPair) → map entry_of (pairs ++ pair ∷ []) ≡ map entry_of pairs ++ entry_of pair ∷ []
map_end [] pair = refl
map_end (first ∷ pairs) pair = ap (λ (rest : List PrefEntry). entry_of first ∷ rest) (map_end pairs pair)

turned_end : (left rest : List PrefEntry) (entry : PrefEntry) → left ≡ rest ++ entry ∷ [] → reverse left ≡ entry ∷ reverse rest
turned_end left rest entry is = ap reverse is ∙ reverse-append rest (entry ∷ [])

pub taken_more : (all left rest : List PrefEntry) (pairs : List PrefPair) (pair : PrefPair) → Taken all left pairs → left ≡ rest ++ entry_of pair ∷ [] → IsPair pair → Taken all rest (pairs ++ pair ∷ [])
taken_more all left rest pairs pair taken is valid = record {
  parts = taken.parts ∙ ap (λ (x : List PrefEntry). map entry_of pairs ++ x) (turned_end left rest (entry_of pair) is)
      ∙ sym (append_assoc (map entry_of pairs) (entry_of pair ∷ []) (reverse rest)) ∙ ap (λ (x : List PrefEntry). x ++ reverse rest) (sym (map_end pairs pair));
  valid = All-append IsPair pairs (pair ∷ []) taken.valid (All-cons IsPair pair [] valid (All-nil IsPair));
}

taken_whole : (all : List PrefEntry) (pairs : List PrefPair) → Taken all [] pairs → all ≡ map entry_of pairs
taken_whole all pairs taken = taken.parts ∙ append-nil (map entry_of pairs)

pub taken_sorted : (all left : List PrefEntry) (pairs : List PrefPair) → Taken all left pairs → left ≡ [] → IsRising name_of all → IsSortedList key_of IsPair pairs
taken_sorted all left pairs taken is rising =
    let whole = taken_whole all pairs (subst (λ (x : List PrefEntry). Taken all x pairs) is taken) in
    record { rising = rising_pairs pairs (subst (IsRising name_of) whole rising); valid = taken.valid }

pub taken_values : (all left : List PrefEntry) (pairs : List PrefPair) → Taken all left pairs → left ≡ [] → HasFirstValues all pairs
taken_values all left pairs taken is =
    let whole = taken_whole all pairs (subst (λ (x : List PrefEntry). Taken all x pairs) is taken) in
    subst (λ (x : List PrefEntry). HasFirstValues x pairs) (sym whole) (first_of_pairs pairs)

pub taken_unset : (all left rest : List PrefEntry) (pairs : List PrefPair) (key : List ℕ) → Taken all left pairs → left ≡ rest ++ unset key ∷ [] → IsRising name_of all → IsLeastUnset all key
taken_unset all left rest pairs key taken is rising =
    let whole : all ≡ behind_pairs pairs key (reverse rest) = taken.parts ∙ ap (λ (x : List PrefEntry). map entry_of pairs ++ x) (turned_end left rest (unset key) is) in
    let rises = subst (IsRising name_of) whole rising in
    subst (λ (x : List PrefEntry). IsLeastUnset x key) (sym whole) (record {
      unset = unset_found pairs key (reverse rest) rises;
      least = none_less pairs key (reverse rest) rises;
    })

abbrev with_value : List ℕ → Option PrefValue → PrefEntry
with_value key value = record { key = key; value = value }

pub taken_pair : (all left rest : List PrefEntry) (pairs : List PrefPair) (entry : PrefEntry) (pair : PrefPair) → Taken all left pairs → left ≡ rest ++ entry ∷ [] → entry.key ≡ pair.key → entry.value ≡ Some pair.value → IsPair pair → Taken all rest (pairs ++ pair ∷ [])
taken_pair all left rest pairs entry pair taken is same_key same_value valid =
    let same : entry ≡ entry_of pair = ap (with_value entry.key) same_value ∙ ap (λ (k : List ℕ). with_value k (Some pair.value)) same_key in
    taken_more all left rest pairs pair taken (is ∙ ap (λ (e : PrefEntry). rest ++ e ∷ []) same) valid

pub taken_none : (all left rest : List PrefEntry) (pairs : List PrefPair) (entry : PrefEntry) → Taken all left pairs → left ≡ rest ++ entry ∷ [] → entry.value ≡ None → IsRising name_of all → IsLeastUnset all entry.key
taken_none all left rest pairs entry taken is no_value rising =
    taken_unset all left rest pairs entry.key taken (is ∙ ap (λ (v : Option PrefValue). rest ++ with_value entry.key v ∷ []) no_value) rising

-- ---- the entries as they came, and those that are left of them

pub same_first : (left came : List PrefEntry) → ((key : List ℕ) → value_under name_of (λ entry. entry) left key ≡ value_under name_of (λ entry. entry) came key) → (key : List ℕ) → first_with left key ≡ first_with came key
same_first left came same key = value_under-found name_of content_of left key ∙ ap (option_map content_of) (same key) ∙ sym (value_under-found name_of content_of came key)

pub unset_along : (left came : List PrefEntry) (key : List ℕ) → ((key : List ℕ) → first_with left key ≡ first_with came key) → IsLeastUnset left key → IsLeastUnset came key
unset_along left came key same is = record {
  unset = sym (same key) ∙ is.unset;
  least = λ other none less. is.least other (same other ∙ none) less;
}
