-- From what was found to the map that is read, or to the refusal; and that they exclude each other.
use Rattle.std.proofs.Common.{◌≡◌, ℕ, List, reverse, Bool, false, IsTrue, Option, None, Some, Result, Ok, Err, refl, sym, ap, ◌∙◌}
use Rattle.std.specs.Prelude.{MatchResult}
use Rattle.std.specs.List.{flat_map}
use Rattle.std.specs.Option.{option_map}
use Rattle.prefs_model.specs.declared.pref_pair.PrefPair.{PrefPair}
use Rattle.prefs_model.specs.declared.pref_value.PrefValue.{PrefValue}
use Rattle.prefs_model.specs.Entry.{HasFirstValues}
use Rattle.prefs_model.specs.Entry as model
use Rattle.prefs_model.specs.Map.{IsMap, value_at}
use Rattle.prefs_proto.specs.declared.decode_error.DecodeError.{DecodeError}
use Rattle.prefs_proto.specs.declared.decode_error.DecodeError.TheVariants.{Wire, NotUtf8, KeyTooLong, ValueNotSet, NoMemory}
use Rattle.prefs_proto.specs.declared.read_map.MapFound.{MapFound}
use Rattle.prefs_proto.specs.Layout.{EntrySeen}
use Rattle.prefs_proto.specs.Reads.{texts_of_entry, bad_text, long_key, last_value, Reads, IsNotUtf8, IsKeyTooLong, IsValueNotSet, Detail}
use Rattle.prefs_proto.specs.Found.{unfit_place, MapIs, ValuesSettled}
use Rattle.prefs_proto.specs.Laws.Said.{said_last}
use Rattle.prefs_proto.specs.Laws.OneReading.{entries_once}
use Rattle.prefs_proto.proofs.Faults.{entries_not_fault}

-- ---- the answers

pub reads_found : (bytes : List ℕ) (found : MapFound) (pairs : List PrefPair) → MapIs bytes found → unfit_place found.texts ≡ None → unfit_place found.keys ≡ None → IsMap pairs → HasFirstValues (reverse found.entries) pairs → Reads bytes pairs
reads_found bytes found pairs h good short is_map values = record {
  entries = h.entries;
  has_entries = h.has_entries;
  all_utf8 = sym h.are_found.bad_is ∙ good;
  keys_fit = sym (h.are_found.long_is good) ∙ short;
  map = is_map;
  values = λ name. sym (said_last found.entries h.entries (h.are_found.said_is good short) name) ∙ values name;
}

pub no_text_found : (bytes : List ℕ) (found : MapFound) (place : ℕ) → MapIs bytes found → unfit_place found.texts ≡ Some place → IsNotUtf8 bytes place
no_text_found bytes found place h bad = record { entries = h.entries; has_entries = h.has_entries; is_least = sym h.are_found.bad_is ∙ bad }

pub long_key_found : (bytes : List ℕ) (found : MapFound) (place : ℕ) → MapIs bytes found → unfit_place found.texts ≡ None → unfit_place found.keys ≡ Some place → IsKeyTooLong bytes place
long_key_found bytes found place h good long = record {
  entries = h.entries;
  has_entries = h.has_entries;
  all_utf8 = sym h.are_found.bad_is ∙ good;
  is_least = sym (h.are_found.long_is good) ∙ long;
}

pub unset_found : (bytes : List ℕ) (found : MapFound) (name : List ℕ) → MapIs bytes found → unfit_place found.texts ≡ None → unfit_place found.keys ≡ None → model.IsLeastUnset (reverse found.entries) name → IsValueNotSet bytes name
unset_found bytes found name h good short is =
    let last = said_last found.entries h.entries (h.are_found.said_is good short) in
    record {
      entries = h.entries;
      has_entries = h.has_entries;
      all_utf8 = sym h.are_found.bad_is ∙ good;
      keys_fit = sym (h.are_found.long_is good) ∙ short;
      values = record {
        unset = sym (last name) ∙ is.unset;
        least = λ other none less. is.least other (last other ∙ none) less;
      };
    }

pub settled_found : (bytes : List ℕ) (found : MapFound) (r : Result (List PrefPair) DecodeError) → MapIs bytes found → unfit_place found.texts ≡ None → unfit_place found.keys ≡ None → ValuesSettled found.entries r → MatchResult r (Reads bytes) (Detail bytes)
settled_found bytes found (Ok pairs) h good short is = reads_found bytes found pairs h good short is.0 is.1
settled_found bytes found (Err (Wire e)) h good short is = absurd is
settled_found bytes found (Err (NotUtf8 place)) h good short is = absurd is
settled_found bytes found (Err (ValueNotSet name)) h good short is = unset_found bytes found name h good short is
settled_found bytes found (Err (KeyTooLong place)) h good short is = absurd is
settled_found bytes found (Err NoMemory) h good short is = tt

-- ---- what is refused reads as no map

none_not_some : {X : Type 0} (x : X) (o : Option X) → o ≡ None → o ≡ Some x → ⊥
none_not_some x o p q = cc

abbrev bad_of : List EntrySeen → Option ℕ
bad_of entries = bad_text (flat_map texts_of_entry entries)

set_or_absent : (o : Option PrefValue) → option_map Some o ≡ Some None → ⊥
set_or_absent None is = cc
set_or_absent (Some v) is = cc

pub no_map : (bytes : List ℕ) (e : DecodeError) → Detail bytes e → (e ≡ NoMemory → ⊥) → (pairs : List PrefPair) → Reads bytes pairs → ⊥
no_map bytes (Wire e) detail memory pairs r = entries_not_fault bytes r.entries e r.has_entries detail
no_map bytes (NotUtf8 place) detail memory pairs r =
    let same = entries_once bytes r.entries detail.entries r.has_entries detail.has_entries in
    none_not_some place (bad_of detail.entries) (ap bad_of (sym same) ∙ r.all_utf8) detail.is_least
no_map bytes (ValueNotSet name) detail memory pairs r =
    let same = entries_once bytes r.entries detail.entries r.has_entries detail.has_entries in
    set_or_absent (value_at pairs name) (sym (r.values name) ∙ ap (λ (entries : List EntrySeen). last_value entries name) same ∙ detail.values.unset)
no_map bytes (KeyTooLong place) detail memory pairs r =
    let same = entries_once bytes r.entries detail.entries r.has_entries detail.has_entries in
    none_not_some place (long_key detail.entries) (ap long_key (sym same) ∙ r.keys_fit) detail.is_least
no_map bytes NoMemory detail memory pairs r = absurd (memory refl)

pub not_true : (b : Bool) → b ≡ false → IsTrue b → ⊥
not_true b is holds = cc
