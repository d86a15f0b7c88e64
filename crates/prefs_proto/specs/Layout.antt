-- What stands in a file: its entries, with the places of their texts (preferences.proto). A field of another
-- number or wire type is skipped.
use Rattle.std.specs.Prelude.{ℕ, ◌≡◌, ◌%◌, ◌^◌, ◌==◌, not, List, [], ◌∷◌, map, Option, None, Some, if◌then◌else◌}
use Rattle.std.specs.Int.{w32, w64, cast_signed}
use Rattle.prefs_model.specs.declared.pref_value.PrefValue.{PrefValue}
use Rattle.prefs_model.specs.declared.pref_value.PrefValue.TheVariants.{Bool, Int, Long, Float, Double}
use Rattle.wire_codec.specs.declared.wire_error.WireError.{WireError}
use Rattle.wire_codec.specs.Payload.{PayloadSeen, varint, eight, delimited, group, four}
use Rattle.wire_codec.specs.Fields.{FieldSeen}
use Rattle.prefs_proto.specs.Message.{Message, MessageFault, bytes_of, Nested, FaultIn}

-- bytes where a text is wanted, and the place of the first
pub record TextSeen : Type 0 where
  pub place : ℕ
  pub bytes : List ℕ

abbrev pub texts_from : ℕ → Option (List ℕ) → List TextSeen
texts_from place None = []
texts_from place (Some bytes) = record { place = place; bytes = bytes } ∷ []

-- ---- `StringSet`: field 1 is a text

abbrev pub SetGives : FieldSeen → List TextSeen → Type 0
SetGives f texts = texts ≡ texts_from f.payload_place (bytes_of 1 f)

abbrev pub IsStringSet : ℕ → List ℕ → List TextSeen → Type 0
IsStringSet at bytes texts = Message SetGives at bytes texts

abbrev pub SetFaulty : FieldSeen → WireError → Type 0
SetFaulty f e = ⊥

abbrev pub StringSetFault : ℕ → List ℕ → WireError → Type 0
StringSetFault at bytes e = MessageFault SetGives SetFaulty at bytes e

-- ---- `Value`: one of its members

pub data MemberSeen : Type 0 where
  scalar : PrefValue → MemberSeen
  text : TextSeen → MemberSeen
  texts : List TextSeen → MemberSeen

-- the members that are no texts
abbrev pub scalar_of : ℕ → PayloadSeen → Option PrefValue
scalar_of number (varint n) =
    if number == 1 then Some (Bool (not (n == 0)))
    else if number == 3 then Some (Int (cast_signed w32 (n % 2 ^ 32)))
    else if number == 4 then Some (Long (cast_signed w64 n))
    else None
scalar_of number (eight bits) = if number == 7 then Some (Double bits) else None
scalar_of number (delimited bytes) = None
scalar_of number group = None
scalar_of number (four bits) = if number == 2 then Some (Float bits) else None

abbrev pub scalars_from : Option PrefValue → List MemberSeen
scalars_from None = []
scalars_from (Some value) = scalar value ∷ []

-- field 5 is a text
abbrev pub members_from : ℕ → Option (List ℕ) → Option PrefValue → List MemberSeen
members_from place (Some bytes) value = text (record { place = place; bytes = bytes }) ∷ []
members_from place None value = scalars_from value

abbrev pub set_member : List TextSeen → List MemberSeen
set_member all = texts all ∷ []

-- field 6 is a string set
abbrev pub ValueGives : FieldSeen → List MemberSeen → Type 0
ValueGives f members = Nested IsStringSet set_member (members_from f.payload_place (bytes_of 5 f) (scalar_of f.number f.payload)) f.payload_place (bytes_of 6 f) members

abbrev pub IsValueMessage : ℕ → List ℕ → List MemberSeen → Type 0
IsValueMessage at bytes members = Message ValueGives at bytes members

abbrev pub ValueFaulty : FieldSeen → WireError → Type 0
ValueFaulty f e = FaultIn StringSetFault f.payload_place (bytes_of 6 f) e

abbrev pub ValueFault : ℕ → List ℕ → WireError → Type 0
ValueFault at bytes e = MessageFault ValueGives ValueFaulty at bytes e

-- ---- an entry: field 1 is its key, and field 2 a part of its value

pub data PartSeen : Type 0 where
  key : TextSeen → PartSeen
  member : MemberSeen → PartSeen

abbrev pub EntryGives : FieldSeen → List PartSeen → Type 0
EntryGives f parts = Nested IsValueMessage (map member) (map key (texts_from f.payload_place (bytes_of 1 f))) f.payload_place (bytes_of 2 f) parts

abbrev pub IsEntryMessage : ℕ → List ℕ → List PartSeen → Type 0
IsEntryMessage at bytes parts = Message EntryGives at bytes parts

abbrev pub EntryFaulty : FieldSeen → WireError → Type 0
EntryFaulty f e = FaultIn ValueFault f.payload_place (bytes_of 2 f) e

abbrev pub EntryFault : ℕ → List ℕ → WireError → Type 0
EntryFault at bytes e = MessageFault EntryGives EntryFaulty at bytes e

-- ---- the map: field 1 is an entry

pub record EntrySeen : Type 0 where
  pub place : ℕ
  pub parts : List PartSeen

abbrev pub entry_at : ℕ → List PartSeen → List EntrySeen
entry_at place parts = record { place = place; parts = parts } ∷ []

abbrev pub MapGives : FieldSeen → List EntrySeen → Type 0
MapGives f entries = Nested IsEntryMessage (entry_at f.place) [] f.payload_place (bytes_of 1 f) entries

-- the file has these entries
abbrev pub HasEntries : List ℕ → List EntrySeen → Type 0
HasEntries bytes entries = Message MapGives 0 bytes entries

abbrev pub MapFaulty : FieldSeen → WireError → Type 0
MapFaulty f e = FaultIn EntryFault f.payload_place (bytes_of 1 f) e

-- the first fault of the file, in the order of its bytes
abbrev pub FileFault : List ℕ → WireError → Type 0
FileFault bytes e = MessageFault MapGives MapFaulty 0 bytes e
