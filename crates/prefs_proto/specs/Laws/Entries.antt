-- The text of a map is a message that gives the pairs of the map as its entries.
use Rattle.std.proofs.Common.{◌≡◌, ℕ, ◌+◌, ◌^◌, ◌<◌, ◌≤◌, Bool, List, [], ◌∷◌, ◌++◌, length, map, reverse, All, Option, None, Some, refl, ap, sym, subst, ◌∙◌, arith, length-append}
use Rattle.std.specs.Prelude.{if◌then◌else◌}
use Rattle.std.specs.List.{flat_map}
use Rattle.std.proofs.lemmas.Bool.{le-ltb}
use Rattle.std.proofs.lemmas.List.Elements.{All-head, All-tail}
use Rattle.wire_codec.specs.Payload.{delimited}
use Rattle.wire_codec.specs.Text.{written_field}
use Rattle.prefs_model.specs.declared.pref_entry.PrefEntry.{PrefEntry}
use Rattle.prefs_model.specs.declared.pref_pair.PrefPair.{PrefPair}
use Rattle.prefs_model.specs.declared.pref_value.PrefValue.{PrefValue}
use Rattle.prefs_model.specs.Value.{IsValue}
use Rattle.prefs_model.specs.Key.{IsKey}
use Rattle.prefs_model.specs.Entry.{entry_of}
use Rattle.prefs_proto.specs.FieldText.{field}
use Rattle.prefs_proto.specs.ValueText.{value_text}
use Rattle.prefs_proto.specs.Encoded.{entry_text, pair_text, encoded}
use Rattle.prefs_proto.specs.Message.{Message}
use Rattle.prefs_proto.specs.Layout.{TextSeen, MemberSeen, PartSeen, key, member, EntryGives, IsEntryMessage, EntrySeen, MapGives}
use Rattle.prefs_proto.specs.Entry.{value_back, last_key, members_of, key_of, value_of}
use Rattle.prefs_proto.specs.Reads.{least, bad_text, texts_of_part, texts_of_entry, long_key}
use Rattle.prefs_proto.specs.Found.{bad_part, bad_entry, entry_said}
use Rattle.prefs_proto.specs.Laws.Fields.{length-field, field_1, field_2, is_written, message_none, message_more, message_field}
use Rattle.prefs_proto.specs.Laws.Places.{bad_text-append, texts_of_members, good_text}
use Rattle.prefs_proto.specs.Laws.Values.{value_written}

-- ---- an entry

pub members_of_members : (members : List MemberSeen) → members_of (map member members) ≡ members
members_of_members [] = refl
members_of_members (m ∷ members) = ap (λ (all : List MemberSeen). m ∷ all) (members_of_members members)

pub last_key_members : (name : List ℕ) (members : List MemberSeen) → last_key name (map member members) ≡ name
last_key_members name [] = refl
last_key_members name (m ∷ members) = last_key_members name members

pub record EntryWritten (at : ℕ) (pair : PrefPair) : Type 0 where
  pub parts : List PartSeen
  pub is_entry : IsEntryMessage at (entry_text pair) parts
  pub key_is : last_key [] parts ≡ pair.key
  pub value_is : value_back (reverse (members_of parts)) ≡ Some pair.value
  pub good : bad_part parts ≡ None

entry_text-is : (pair : PrefPair) → entry_text pair ≡ field 0x0a pair.key ++ field 0x12 (value_text pair.value)
unfolding entry_text
entry_text-is pair = refl

entry_written : (at : ℕ) (pair : PrefPair) → IsKey pair.key → IsValue pair.value → length (entry_text pair) < 2 ^ 64 → EntryWritten at pair
entry_written at pair is_key is_value small =
    let name = pair.key in
    let value = value_text pair.value in
    let front = field 0x0a name in
    let behind = field 0x12 value in
    let whole : length (entry_text pair) ≡ length front + length behind = ap length (entry_text-is pair) ∙ length-append front behind in
    let name_small : length name < 2 ^ 64 = omega (arith, whole, length-field 0x0a name) in
    let value_small : length value < 2 ^ 64 = omega (arith, whole, length-field 0x12 value) in
    let f = written_field at 1 (delimited name) in
    let g = written_field (at + length front) 2 (delimited value) in
    let v = value_written g.payload_place pair.value is_value value_small in
    let seen : TextSeen = record { place = f.payload_place; bytes = name } in
    let value_parts : IsEntryMessage (at + length front) behind (map member v.members) =
    message_field EntryGives (at + length front) behind g (map member v.members)
    (is_written (at + length front) 2 (delimited value) behind (omega arith) (omega arith) value_small (field_2 value)) (v.members, v.is_value, refl) in
    record {
      parts = key seen ∷ map member v.members;
      is_entry = subst (λ (b : List ℕ). IsEntryMessage at b (key seen ∷ map member v.members)) (sym (entry_text-is pair))
          (message_more EntryGives at front behind f (key seen ∷ []) (map member v.members)
          (is_written at 1 (delimited name) front (omega arith) (omega arith) name_small (field_1 name)) refl value_parts);
      key_is = last_key_members name v.members;
      value_is = ap (λ (all : List MemberSeen). value_back (reverse all)) (members_of_members v.members) ∙ v.value_is;
      good = bad_text-append (seen ∷ []) (flat_map texts_of_part (map member v.members))
          ∙ ap (λ (b : Option ℕ). least b (bad_text (flat_map texts_of_part (map member v.members)))) (good_text f.payload_place name is_key.text)
          ∙ ap bad_text (texts_of_members v.members) ∙ v.good;
    }

-- ---- the map

pub record MapWritten (at : ℕ) (pairs : List PrefPair) : Type 0 where
  pub entries : List EntrySeen
  pub are_entries : Message MapGives at (encoded pairs) entries
  pub said : map entry_said entries ≡ map entry_of pairs
  pub good : bad_entry entries ≡ None
  pub short : long_key entries ≡ None

pair_text-is : (pair : PrefPair) → pair_text pair ≡ field 0x0a (entry_text pair)
unfolding pair_text
pair_text-is pair = refl

encoded-nil : encoded [] ≡ []
unfolding encoded
encoded-nil = refl

encoded-cons : (pair : PrefPair) (pairs : List PrefPair) → encoded (pair ∷ pairs) ≡ pair_text pair ++ encoded pairs
unfolding encoded
encoded-cons pair pairs = refl

abbrev said_of : List ℕ → Option PrefValue → PrefEntry
said_of name value = record { key = name; value = value }

pub map_written : (at : ℕ) (pairs : List PrefPair) → All (λ pair. IsKey pair.key) pairs → All (λ pair. IsValue pair.value) pairs → length (encoded pairs) < 2 ^ 64 → MapWritten at pairs
map_written at [] keys values small = record {
  entries = [];
  are_entries = subst (λ (b : List ℕ). Message MapGives at b []) (sym encoded-nil) (message_none MapGives at);
  said = refl;
  good = refl;
  short = refl;
}
map_written at (pair ∷ pairs) keys values small =
    let inner = entry_text pair in
    let front = field 0x0a inner in
    let parts : encoded (pair ∷ pairs) ≡ front ++ encoded pairs = encoded-cons pair pairs ∙ ap (λ (b : List ℕ). b ++ encoded pairs) (pair_text-is pair) in
    let whole : length (encoded (pair ∷ pairs)) ≡ length front + length (encoded pairs) = ap length parts ∙ length-append front (encoded pairs) in
    let inner_small : length inner < 2 ^ 64 = omega (arith, whole, length-field 0x0a inner) in
    let is_key = All-head (λ (p : PrefPair). IsKey p.key) pair pairs keys in
    let f = written_field at 1 (delimited inner) in
    let e = entry_written f.payload_place pair is_key (All-head (λ (p : PrefPair). IsValue p.value) pair pairs values) inner_small in
    let entry : EntrySeen = record { place = at; parts = e.parts } in
    let behind = map_written (at + length front) pairs (All-tail (λ (p : PrefPair). IsKey p.key) pair pairs keys) (All-tail (λ (p : PrefPair). IsValue p.value) pair pairs values) (omega (arith, whole)) in
    let said : entry_said entry ≡ entry_of pair =
    ap (λ (name : List ℕ). said_of name (value_of entry)) e.key_is ∙ ap (λ (value : Option PrefValue). said_of pair.key value) e.value_is in
    let short : length (key_of entry) ≤ 1024 = rw e.key_is is_key.within in
    record {
      entries = entry ∷ behind.entries;
      are_entries = subst (λ (b : List ℕ). Message MapGives at b (entry ∷ behind.entries)) (sym parts)
          (message_more MapGives at front (encoded pairs) f (entry ∷ []) behind.entries
          (is_written at 1 (delimited inner) front (omega arith) (omega arith) inner_small (field_1 inner)) (e.parts, e.is_entry, refl) behind.are_entries);
      said = ap (λ (first : PrefEntry). first ∷ map entry_said behind.entries) said ∙ ap (λ (others : List PrefEntry). entry_of pair ∷ others) behind.said;
      good = bad_text-append (texts_of_entry entry) (flat_map texts_of_entry behind.entries)
          ∙ ap (λ (b : Option ℕ). least b (bad_entry behind.entries)) e.good ∙ behind.good;
      short = ap (λ (b : Bool). least (if b then Some at else None) (long_key behind.entries)) (le-ltb 1024 (length (key_of entry)) short) ∙ behind.short;
    }
