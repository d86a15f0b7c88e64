-- The map that a file reads as, and why it reads as none.
use Rattle.std.specs.Prelude.{ℕ, ◌≡◌, ◌≢◌, List, [], ◌∷◌, length, min, not, nat_lt, reverse, Bool, Option, None, Some, if◌then◌else◌}
use Rattle.std.specs.Option.{option_map}
use Rattle.std.specs.List.{flat_map}
use Rattle.std.specs.Str.{is_utf8}
use Rattle.std.specs.declared.cmp.Ordering.TheVariants.{Less}
use Rattle.prefs_model.specs.declared.pref_pair.PrefPair.{PrefPair}
use Rattle.prefs_model.specs.declared.pref_value.PrefValue.{PrefValue}
use Rattle.prefs_model.specs.Map.{IsMap, value_at, key_cmp}
use Rattle.prefs_model.specs.Rising.{value_under}
use Rattle.prefs_proto.specs.Layout.{TextSeen, MemberSeen, scalar, text, texts, PartSeen, key, member, EntrySeen, HasEntries, FileFault}
use Rattle.prefs_proto.specs.Entry.{key_of, value_of}
use Rattle.prefs_proto.specs.declared.decode_error.DecodeError.{DecodeError}
use Rattle.prefs_proto.specs.declared.decode_error.DecodeError.TheVariants.{Wire, NotUtf8, KeyTooLong, ValueNotSet, NoMemory}

-- ---- texts and keys that may not stand there

abbrev pub texts_of_member : MemberSeen → List TextSeen
texts_of_member (scalar v) = []
texts_of_member (text t) = t ∷ []
texts_of_member (texts all) = all

abbrev pub texts_of_part : PartSeen → List TextSeen
texts_of_part (key t) = t ∷ []
texts_of_part (member m) = texts_of_member m

abbrev pub texts_of_entry : EntrySeen → List TextSeen
texts_of_entry e = flat_map texts_of_part e.parts

abbrev pub is_no_text : TextSeen → Bool
is_no_text t = not (is_utf8 t.bytes)

abbrev pub is_too_long : EntrySeen → Bool
is_too_long e = nat_lt 1024 (length (key_of e))

-- the lesser of two places, where there are two
abbrev pub least : Option ℕ → Option ℕ → Option ℕ
least None other = other
least (Some place) None = Some place
least (Some place) (Some other) = Some (min place other)

-- the least place of the items that the test finds
abbrev pub least_place : {X : Type 0} → (X → ℕ) → (X → Bool) → List X → Option ℕ
least_place place_of is_bad [] = None
least_place place_of is_bad (item ∷ items) = least (if is_bad item then Some (place_of item) else None) (least_place place_of is_bad items)

-- the place of a text that is not UTF-8, in keys, members and sets, also where a later one replaces it
abbrev pub bad_text : List TextSeen → Option ℕ
bad_text all = least_place (λ t. t.place) is_no_text all

-- the place of an entry whose key has more than 1,024 bytes
abbrev pub long_key : List EntrySeen → Option ℕ
long_key entries = least_place (λ e. e.place) is_too_long entries

-- what the last entry of a key says; a value that has no member is none
abbrev pub last_value : List EntrySeen → List ℕ → Option (Option PrefValue)
last_value entries name = value_under key_of value_of (reverse entries) name

-- ---- the relation

-- All texts are UTF-8, and the map has at each key the value of the last entry with it.
pub record Reads (bytes : List ℕ) (pairs : List PrefPair) : Type 0 where
  pub entries : List EntrySeen
  pub has_entries : HasEntries bytes entries
  pub all_utf8 : bad_text (flat_map texts_of_entry entries) ≡ None
  pub keys_fit : long_key entries ≡ None
  pub map : IsMap pairs
  pub values : (name : List ℕ) → last_value entries name ≡ option_map Some (value_at pairs name)

-- the least key whose last entry has no value
pub record IsLeastUnset (entries : List EntrySeen) (name : List ℕ) : Type 0 where
  pub unset : last_value entries name ≡ Some None
  pub least : (other : List ℕ) → last_value entries other ≡ Some None → key_cmp other name ≡ Less → ⊥

-- ---- the refusal

pub record IsNotUtf8 (bytes : List ℕ) (place : ℕ) : Type 0 where
  pub entries : List EntrySeen
  pub has_entries : HasEntries bytes entries
  pub is_least : bad_text (flat_map texts_of_entry entries) ≡ Some place

pub record IsKeyTooLong (bytes : List ℕ) (place : ℕ) : Type 0 where
  pub entries : List EntrySeen
  pub has_entries : HasEntries bytes entries
  pub all_utf8 : bad_text (flat_map texts_of_entry entries) ≡ None
  pub is_least : long_key entries ≡ Some place

pub record IsValueNotSet (bytes : List ℕ) (name : List ℕ) : Type 0 where
  pub entries : List EntrySeen
  pub has_entries : HasEntries bytes entries
  pub all_utf8 : bad_text (flat_map texts_of_entry entries) ≡ None
  pub keys_fit : long_key entries ≡ None
  pub values : IsLeastUnset entries name

-- A fault of the wire format stands before all others; then a text, a key, and a value.
abbrev pub Detail : List ℕ → DecodeError → Type 0
Detail bytes (Wire e) = FileFault bytes e
Detail bytes (NotUtf8 place) = IsNotUtf8 bytes place
Detail bytes (ValueNotSet name) = IsValueNotSet bytes name
Detail bytes (KeyTooLong place) = IsKeyTooLong bytes place
Detail bytes NoMemory = Unit {0}

-- The bytes are refused so, and not for want of memory, which says nothing of them.
pub record IsRefusal (bytes : List ℕ) (e : DecodeError) : Type 0 where
  pub detail : Detail bytes e
  pub not_memory : e ≢ NoMemory
