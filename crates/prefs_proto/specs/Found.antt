-- What each part of the reading answers.
use Rattle.std.specs.Prelude.{ℕ, ◌≡◌, List, [], ◌∷◌, ◌++◌, map, reverse, Option, None, Some, Result, Ok, Err}
use Rattle.std.specs.List.{flat_map}
use Rattle.prefs_model.specs.declared.pref_entry.PrefEntry.{PrefEntry}
use Rattle.prefs_model.specs.declared.pref_pair.PrefPair.{PrefPair}
use Rattle.prefs_model.specs.declared.pref_value.PrefValue.{PrefValue}
use Rattle.prefs_model.specs.Entry.{HasFirstValues, IsLeastUnset}
use Rattle.prefs_model.specs.Map.{IsMap}
use Rattle.prefs_proto.specs.declared.decode_error.DecodeError.{DecodeError}
use Rattle.prefs_proto.specs.declared.decode_error.DecodeError.TheVariants as refused
use Rattle.prefs_model.specs.declared.pref_value.PrefValue.TheVariants.{Text, Texts}
use Rattle.prefs_proto.specs.declared.draft.Draft.{Draft}
use Rattle.prefs_proto.specs.declared.draft.Draft.TheVariants.{Unset, One, Run}
use Rattle.prefs_proto.specs.declared.stop.Stop.{Stop}
use Rattle.prefs_proto.specs.declared.stop.Stop.TheVariants.{Wire, NoMemory}
use Rattle.prefs_proto.specs.declared.read_entry.EntryFound.{EntryFound}
use Rattle.prefs_proto.specs.declared.read_map.MapFound.{MapFound}
use Rattle.prefs_proto.specs.declared.unfit.UnfitAt.{UnfitAt}
use Rattle.wire_codec.specs.Fields.{FieldSeen}
use Rattle.prefs_proto.specs.Layout.{TextSeen, SetGives, IsStringSet, StringSetFault, MemberSeen, scalar, text, texts, ValueGives, IsValueMessage, ValueFaulty, ValueFault, PartSeen, EntryGives, IsEntryMessage, EntryFaulty, EntryFault, EntrySeen, MapGives, HasEntries, MapFaulty, FileFault}
use Rattle.prefs_model.specs.Texts.{set_of}
use Rattle.prefs_proto.specs.Entry.{bytes_of_text, run_of, last_key, members_of, key_of, value_of}
use Rattle.prefs_proto.specs.Reads.{texts_of_member, texts_of_part, texts_of_entry, bad_text, long_key}

-- ---- what may not stand there

-- its place, if there is such
abbrev pub unfit_place : Result (Unit {0}) UnfitAt → Option ℕ
unfit_place (Ok done) = None
unfit_place (Err at) = Some at.0

-- ---- a text

abbrev pub one_text : ℕ → List ℕ → List TextSeen
one_text place bytes = record { place = place; bytes = bytes } ∷ []

-- the bytes as they are, which are a text; or their place
abbrev pub TextRead : ℕ → List ℕ → Result (List ℕ) UnfitAt → Type 0
TextRead place bytes (Ok read) = (read ≡ bytes) × (bad_text (one_text place bytes) ≡ None)
TextRead place bytes (Err at) = bad_text (one_text place bytes) ≡ Some at.0

-- the texts have one more, where it is a text
pub record TextAdded (place : ℕ) (bytes : List ℕ) (old new : List (List ℕ)) (bad : Option ℕ) : Type 0 where
  pub bad_is : bad ≡ bad_text (one_text place bytes)
  pub added : bad ≡ None → new ≡ old ++ bytes ∷ []

-- ---- a string set

pub record SetAdded (place : ℕ) (bytes : List ℕ) (old new : List (List ℕ)) (bad : Option ℕ) : Type 0 where
  pub all : List TextSeen
  pub is_set : IsStringSet place bytes all
  pub bad_is : bad ≡ bad_text all
  pub added : bad ≡ None → new ≡ old ++ map bytes_of_text all

abbrev pub SetRead : ℕ → List ℕ → List (List ℕ) → List (List ℕ) → Result (Result (Unit {0}) UnfitAt) Stop → Type 0
SetRead place bytes old new (Ok read) = SetAdded place bytes old new (unfit_place read)
SetRead place bytes old new (Err (Wire e)) = StringSetFault place bytes e
SetRead place bytes old new (Err NoMemory) = Unit {0}

-- ---- a field of a string set

pub record TextGiven (f : FieldSeen) (old new : List (List ℕ)) (bad : Option ℕ) : Type 0 where
  pub all : List TextSeen
  pub gives : SetGives f all
  pub bad_is : bad ≡ bad_text all
  pub added : bad ≡ None → new ≡ old ++ map bytes_of_text all

-- ---- a value

-- what the members so far, the last first, leave of the value
abbrev pub draft_back : List MemberSeen → Draft
draft_back [] = Unset
draft_back (scalar v ∷ earlier) = One v
draft_back (text t ∷ earlier) = One (Text t.bytes)
draft_back (texts all ∷ earlier) = Run (run_of (texts all ∷ earlier))

-- the texts that a string set is joined with
abbrev pub run_in : Draft → List (List ℕ)
run_in Unset = []
run_in (One v) = []
run_in (Run run) = run

abbrev pub settled : Draft → Option PrefValue
settled Unset = None
settled (One v) = Some v
settled (Run run) = Some (Texts (set_of run))

pub record DraftSetAdded (place : ℕ) (bytes : List ℕ) (old new : Draft) (bad : Option ℕ) : Type 0 where
  pub all : List TextSeen
  pub is_set : IsStringSet place bytes all
  pub bad_is : bad ≡ bad_text all
  pub added : bad ≡ None → new ≡ Run (run_in old ++ map bytes_of_text all)

abbrev pub DraftSetRead : ℕ → List ℕ → Draft → Draft → Result (Result (Unit {0}) UnfitAt) Stop → Type 0
DraftSetRead place bytes old new (Ok read) = DraftSetAdded place bytes old new (unfit_place read)
DraftSetRead place bytes old new (Err (Wire e)) = StringSetFault place bytes e
DraftSetRead place bytes old new (Err NoMemory) = Unit {0}

-- the draft is that of the members before and of these
abbrev pub Drafts : List MemberSeen → Draft → Draft → Type 0
Drafts members old new = (earlier : List MemberSeen) → old ≡ draft_back (reverse earlier) → new ≡ draft_back (reverse (earlier ++ members))

abbrev pub bad_member : List MemberSeen → Option ℕ
bad_member members = bad_text (flat_map texts_of_member members)

pub record ValueAdded (place : ℕ) (bytes : List ℕ) (old new : Draft) (bad : Option ℕ) : Type 0 where
  pub members : List MemberSeen
  pub is_value : IsValueMessage place bytes members
  pub bad_is : bad ≡ bad_member members
  pub added : bad ≡ None → Drafts members old new

-- a field of a value
pub record MemberGiven (f : FieldSeen) (old new : Draft) (bad : Option ℕ) : Type 0 where
  pub members : List MemberSeen
  pub gives : ValueGives f members
  pub bad_is : bad ≡ bad_member members
  pub added : bad ≡ None → Drafts members old new

abbrev pub MemberRead : FieldSeen → Draft → Draft → Result (Result (Unit {0}) UnfitAt) Stop → Type 0
MemberRead f old new (Ok read) = MemberGiven f old new (unfit_place read)
MemberRead f old new (Err (Wire e)) = ValueFaulty f e
MemberRead f old new (Err NoMemory) = Unit {0}

abbrev pub ValueRead : ℕ → List ℕ → Draft → Draft → Result (Result (Unit {0}) UnfitAt) Stop → Type 0
ValueRead place bytes old new (Ok read) = ValueAdded place bytes old new (unfit_place read)
ValueRead place bytes old new (Err (Wire e)) = ValueFault place bytes e
ValueRead place bytes old new (Err NoMemory) = Unit {0}

-- ---- an entry

abbrev pub bad_part : List PartSeen → Option ℕ
bad_part parts = bad_text (flat_map texts_of_part parts)

-- a field of an entry
pub record PartGiven (f : FieldSeen) (old_key new_key : List ℕ) (old new : Draft) (bad : Option ℕ) : Type 0 where
  pub parts : List PartSeen
  pub gives : EntryGives f parts
  pub bad_is : bad ≡ bad_part parts
  pub key_is : bad ≡ None → new_key ≡ last_key old_key parts
  pub added : bad ≡ None → Drafts (members_of parts) old new

abbrev pub PartRead : FieldSeen → List ℕ → List ℕ → Draft → Draft → Result (Result (Unit {0}) UnfitAt) Stop → Type 0
PartRead f old_key new_key old new (Ok read) = PartGiven f old_key new_key old new (unfit_place read)
PartRead f old_key new_key old new (Err (Wire e)) = EntryFaulty f e
PartRead f old_key new_key old new (Err NoMemory) = Unit {0}

pub record EntryIs (place : ℕ) (bytes : List ℕ) (found : EntryFound) : Type 0 where
  pub parts : List PartSeen
  pub is_entry : IsEntryMessage place bytes parts
  pub bad_is : unfit_place found.texts ≡ bad_part parts
  pub key_is : unfit_place found.texts ≡ None → found.key ≡ last_key [] parts
  pub draft_is : unfit_place found.texts ≡ None → found.draft ≡ draft_back (reverse (members_of parts))

abbrev pub EntryRead : ℕ → List ℕ → Result EntryFound Stop → Type 0
EntryRead place bytes (Ok found) = EntryIs place bytes found
EntryRead place bytes (Err (Wire e)) = EntryFault place bytes e
EntryRead place bytes (Err NoMemory) = Unit {0}

-- ---- the map

abbrev pub bad_entry : List EntrySeen → Option ℕ
bad_entry entries = bad_text (flat_map texts_of_entry entries)

abbrev pub entry_said : EntrySeen → PrefEntry
entry_said e = record { key = key_of e; value = value_of e }

-- the entries so far: the least places of what may not stand there, and else what they say
pub record AreFound (entries : List EntrySeen) (found : MapFound) : Type 0 where
  pub bad_is : unfit_place found.texts ≡ bad_entry entries
  pub long_is : unfit_place found.texts ≡ None → unfit_place found.keys ≡ long_key entries
  pub said_is : unfit_place found.texts ≡ None → unfit_place found.keys ≡ None → found.entries ≡ map entry_said entries

-- a field of the map
pub record EntryGiven (f : FieldSeen) (old new : MapFound) : Type 0 where
  pub entries : List EntrySeen
  pub gives : MapGives f entries
  pub added : (earlier : List EntrySeen) → AreFound earlier old → AreFound (earlier ++ entries) new

abbrev pub EntryAdded : {T : Type 0} → FieldSeen → MapFound → MapFound → Result T Stop → Type 0
EntryAdded f old new (Ok done) = EntryGiven f old new
EntryAdded f old new (Err (Wire e)) = MapFaulty f e
EntryAdded f old new (Err NoMemory) = Unit {0}

pub record MapIs (bytes : List ℕ) (found : MapFound) : Type 0 where
  pub entries : List EntrySeen
  pub has_entries : HasEntries bytes entries
  pub are_found : AreFound entries found

abbrev pub MapRead : List ℕ → Result MapFound Stop → Type 0
MapRead bytes (Ok found) = MapIs bytes found
MapRead bytes (Err (Wire e)) = FileFault bytes e
MapRead bytes (Err NoMemory) = Unit {0}

-- ---- the values

-- the map of what the last entries say, or the least key that has no value
abbrev pub ValuesSettled : List PrefEntry → Result (List PrefPair) DecodeError → Type 0
ValuesSettled said (Ok pairs) = IsMap pairs × HasFirstValues (reverse said) pairs
ValuesSettled said (Err (refused.Wire e)) = ⊥
ValuesSettled said (Err (refused.NotUtf8 place)) = ⊥
ValuesSettled said (Err (refused.ValueNotSet name)) = IsLeastUnset (reverse said) name
ValuesSettled said (Err (refused.KeyTooLong place)) = ⊥
ValuesSettled said (Err refused.NoMemory) = Unit {0}
