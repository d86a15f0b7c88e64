-- The text of a map reads as that map: each key stands once in it, so its first entry is its last.
use Rattle.std.proofs.Common.{◌≡◌, ◌^◌, ◌<◌, Bool, true, false, ℕ, List, [], ◌∷◌, ◌++◌, length, map, reverse, Option, None, Some, refl, sym, ap, ◌∙◌}
use Rattle.std.specs.Prelude.{if◌then◌else◌}
use Rattle.std.specs.Option.{option_map}
use Rattle.std.specs.Ordering.{is_eq}
use Rattle.std.proofs.lemmas.List.{reverse-append}
use Rattle.prefs_model.specs.declared.pref_entry.PrefEntry.{PrefEntry}
use Rattle.prefs_model.specs.declared.pref_pair.PrefPair.{PrefPair}
use Rattle.prefs_model.specs.declared.pref_value.PrefValue.{PrefValue}
use Rattle.prefs_model.specs.Entry.{entry_of, name_of, content_of, first_with}
use Rattle.prefs_model.specs.Map.{IsMap, value_at, key_of as map_key}
use Rattle.prefs_model.specs.Rising.{key_cmp, IsBelow, IsRising}
use Rattle.prefs_model.proofs.Keys.{same_from_is_eq}
use Rattle.prefs_model.proofs.Rising.{value_below}
use Rattle.prefs_proto.specs.Encoded.{encoded}
use Rattle.prefs_proto.specs.Reads.{Reads}
use Rattle.prefs_proto.specs.Laws.Entries.{map_written}
use Rattle.prefs_proto.specs.Laws.Said.{said_last}

abbrev or_else : Option (Option PrefValue) → Option (Option PrefValue) → Option (Option PrefValue)
or_else None other = other
or_else (Some value) other = Some value

or_else_none : (o : Option (Option PrefValue)) → or_else o None ≡ o
or_else_none None = refl
or_else_none (Some value) = refl

first_with-append : (xs ys : List PrefEntry) (name : List ℕ) → first_with (xs ++ ys) name ≡ or_else (first_with xs name) (first_with ys name)
first_with-append [] ys name = refl
first_with-append (x ∷ xs) ys name =
    elim (is_eq (key_cmp name (name_of x))) as (λ b. (if b then Some (content_of x) else first_with (xs ++ ys) name) ≡ or_else (if b then Some (content_of x) else first_with xs name) (first_with ys name)) [
      | true ↦ refl
      | false ↦ first_with-append xs ys name
    ]

chosen_once : (b : Bool) (o : Option (Option PrefValue)) (value : Option PrefValue) → (b ≡ true → o ≡ None) → or_else o (if b then Some value else None) ≡ (if b then Some value else o)
chosen_once true o value absent = rw (absent refl) refl
chosen_once false o value absent = or_else_none o

first_is_last : (entries : List PrefEntry) → IsRising name_of entries → (name : List ℕ) → first_with (reverse entries) name ≡ first_with entries name
first_is_last [] rises name = refl
first_is_last (x ∷ xs) rises name =
    let absent : is_eq (key_cmp name (name_of x)) ≡ true → first_with xs name ≡ None =
    λ same. ap (λ (at : List ℕ). first_with xs at) (same_from_is_eq name (name_of x) same) ∙ value_below name_of content_of xs (name_of x) rises.1 rises.0 in
    ap (λ (all : List PrefEntry). first_with all name) (reverse-append (x ∷ []) xs)
    ∙ first_with-append (reverse xs) (x ∷ []) name
    ∙ ap (λ (o : Option (Option PrefValue)). or_else o (first_with (x ∷ []) name)) (first_is_last xs rises.1 name)
    ∙ chosen_once (is_eq (key_cmp name (name_of x))) (first_with xs name) (content_of x) absent

below_again : (name : List ℕ) (pairs : List PrefPair) → IsBelow map_key name pairs → IsBelow name_of name (map entry_of pairs)
below_again name [] below = tt
below_again name (pair ∷ pairs) below = below

rises_again : (pairs : List PrefPair) → IsRising map_key pairs → IsRising name_of (map entry_of pairs)
rises_again [] rises = tt
rises_again (pair ∷ pairs) rises = (below_again pair.key pairs rises.0, rises_again pairs rises.1)

values_again : (pairs : List PrefPair) (name : List ℕ) → first_with (map entry_of pairs) name ≡ option_map Some (value_at pairs name)
values_again [] name = refl
values_again (pair ∷ pairs) name =
    elim (is_eq (key_cmp name pair.key)) as (λ b. (if b then Some (Some pair.value) else first_with (map entry_of pairs) name) ≡ option_map Some (if b then Some pair.value else value_at pairs name)) [
      | true ↦ refl
      | false ↦ values_again pairs name
    ]

-- the text of a map reads as that map
pub written_reads : (pairs : List PrefPair) → IsMap pairs → length (encoded pairs) < 2 ^ 64 → Reads (encoded pairs) pairs
written_reads pairs is small =
    let written = map_written 0 pairs is.keys is.values small in
    record {
      entries = written.entries;
      has_entries = written.are_entries;
      all_utf8 = written.good;
      keys_fit = written.short;
      map = is;
      values = λ name.
          sym (said_last (map entry_of pairs) written.entries (sym written.said) name)
          ∙ first_is_last (map entry_of pairs) (rises_again pairs is.rising) name ∙ values_again pairs name;
    }
