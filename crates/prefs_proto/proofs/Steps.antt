-- What one field adds.
use Rattle.std.proofs.Common.{◌≡◌, ℕ, ◌<◌, ◌≤◌, List, [], ◌∷◌, ◌++◌, length, map, Bool, true, false, Option, None, Some, Result, Ok, Err, refl, sym, ap, subst, ◌∙◌}
use Rattle.std.specs.Str.{IsUtf8, is_utf8}
use Rattle.std.proofs.lemmas.Str.{IsUtf8-from_is_utf8}
use Rattle.std.proofs.lemmas.Bool.{lt-ltb, le-ltb}
use Rattle.wire_codec.specs.Fields.{FieldSeen}
use Rattle.prefs_model.specs.declared.pref_entry.PrefEntry.{PrefEntry}
use Rattle.prefs_model.specs.declared.pref_value.PrefValue.{PrefValue}
use Rattle.prefs_model.specs.declared.pref_value.PrefValue.TheVariants.{Text}
use Rattle.prefs_proto.specs.declared.draft.Draft.{Draft}
use Rattle.prefs_proto.specs.declared.draft.Draft.TheVariants.{One}
use Rattle.prefs_proto.specs.declared.stop.Stop.{Stop}
use Rattle.prefs_proto.specs.declared.stop.Stop.TheVariants.{Wire, NoMemory}
use Rattle.prefs_proto.specs.declared.read_entry.EntryFound.{EntryFound}
use Rattle.prefs_proto.specs.declared.read_map.MapFound.{MapFound}
use Rattle.prefs_proto.specs.declared.unfit.UnfitAt.{UnfitAt}
use Rattle.prefs_proto.specs.Message.{bytes_of, Nested, FaultIn}
use Rattle.prefs_proto.specs.Layout.{texts_from, IsStringSet, StringSetFault, MemberSeen, scalar, text, texts, set_member, members_from, scalar_of, IsValueMessage, ValueFault, PartSeen, key, member, IsEntryMessage, EntrySeen, entry_at}
use Rattle.prefs_proto.specs.Entry.{key_of, value_of}
use Rattle.prefs_proto.specs.Reads.{least, bad_text, long_key, texts_of_member, texts_of_part, texts_of_entry}
use Rattle.prefs_proto.specs.Found.{unfit_place, one_text, TextRead, DraftSetRead, settled, MemberGiven, MemberRead, ValueRead, bad_part, PartGiven, PartRead, EntryIs, bad_entry, entry_said, EntryGiven}
use Rattle.prefs_proto.specs.Laws.Places.{least_none, none_of_least, bad_among-append, bad_among-one, texts_of_members, long_key-append}
use Rattle.prefs_proto.proofs.Drafts.{drafts_none, drafts_scalar, drafts_text, drafts_texts, settled_back}
use Rattle.prefs_proto.specs.Laws.OneReading.{plain_members, plain_parts}
use Rattle.prefs_proto.specs.Laws.Entries.{members_of_members, last_key_members}

-- ---- a text

no_text_by : (b : Bool) (place : ℕ) (bytes : List ℕ) → is_utf8 bytes ≡ b → (IsUtf8 bytes → ⊥) → bad_text (one_text place bytes) ≡ Some place
no_text_by true place bytes is not_utf8 = absurd (not_utf8 (IsUtf8-from_is_utf8 bytes is))
no_text_by false place bytes is not_utf8 = rw is refl

pub no_text : (place : ℕ) (bytes : List ℕ) → (IsUtf8 bytes → ⊥) → bad_text (one_text place bytes) ≡ Some place
no_text place bytes not_utf8 = no_text_by (is_utf8 bytes) place bytes refl not_utf8

some_not_none : {X : Type 0} (x : X) → Some x ≡ None → ⊥
some_not_none x is = cc

-- ---- a member

abbrev MemberNested : FieldSeen → Option (List ℕ) → List MemberSeen → Type 0
MemberNested f bytes members = Nested IsStringSet set_member (plain_members f) f.payload_place bytes members

pub member_set : (f : FieldSeen) (bytes : List ℕ) (old new : Draft) (r : Result (Result (Unit {0}) UnfitAt) Stop) → bytes_of 6 f ≡ Some bytes → DraftSetRead f.payload_place bytes old new r → MemberRead f old new r
member_set f bytes old new (Ok read) is h = record {
  members = texts h.all ∷ [];
  gives = subst (λ (o : Option (List ℕ)). MemberNested f o (texts h.all ∷ [])) (sym is) (h.all, h.is_set, refl);
  bad_is = h.bad_is ∙ sym (bad_among-one texts_of_member (texts h.all));
  added = λ good. drafts_texts h.all old new (h.added good);
}
member_set f bytes old new (Err (Wire e)) is h = subst (λ (o : Option (List ℕ)). FaultIn StringSetFault f.payload_place o e) (sym is) h
member_set f bytes old new (Err NoMemory) is h = tt

text_gives : (f : FieldSeen) (bytes : List ℕ) → bytes_of 6 f ≡ None → bytes_of 5 f ≡ Some bytes → MemberNested f (bytes_of 6 f) (text (record { place = f.payload_place; bytes = bytes }) ∷ [])
text_gives f bytes no_set is =
    subst (λ (o : Option (List ℕ)). MemberNested f o (text (record { place = f.payload_place; bytes = bytes }) ∷ [])) (sym no_set)
    (ap (λ (o : Option (List ℕ)). members_from f.payload_place o (scalar_of f.number f.payload)) (sym is))

pub member_text : (f : FieldSeen) (bytes read : List ℕ) (old : Draft) → bytes_of 6 f ≡ None → bytes_of 5 f ≡ Some bytes → TextRead f.payload_place bytes (Ok read) → MemberGiven f old (One (Text read)) None
member_text f bytes read old no_set is h = record {
  members = text (record { place = f.payload_place; bytes = bytes }) ∷ [];
  gives = text_gives f bytes no_set is;
  bad_is = sym (bad_among-one texts_of_member (text (record { place = f.payload_place; bytes = bytes })) ∙ h.1);
  added = λ good. rw h.0 (drafts_text f.payload_place bytes old);
}

pub member_no_text : (f : FieldSeen) (bytes : List ℕ) (at : UnfitAt) (old new : Draft) → bytes_of 6 f ≡ None → bytes_of 5 f ≡ Some bytes → TextRead f.payload_place bytes (Err at) → MemberGiven f old new (Some at.0)
member_no_text f bytes at old new no_set is h = record {
  members = text (record { place = f.payload_place; bytes = bytes }) ∷ [];
  gives = text_gives f bytes no_set is;
  bad_is = sym (bad_among-one texts_of_member (text (record { place = f.payload_place; bytes = bytes })) ∙ h);
  added = λ good. absurd (some_not_none at.0 good);
}

pub member_scalar : (f : FieldSeen) (value : PrefValue) (old : Draft) → bytes_of 6 f ≡ None → bytes_of 5 f ≡ None → Some value ≡ scalar_of f.number f.payload → MemberGiven f old (One value) None
member_scalar f value old no_set no_text is = record {
  members = scalar value ∷ [];
  gives = subst (λ (o : Option (List ℕ)). MemberNested f o (scalar value ∷ [])) (sym no_set)
      (ap (λ (v : Option PrefValue). members_from f.payload_place None v) is ∙ ap (λ (o : Option (List ℕ)). members_from f.payload_place o (scalar_of f.number f.payload)) (sym no_text));
  bad_is = refl;
  added = λ good. drafts_scalar value old;
}

-- ---- a part of an entry

abbrev PartNested : FieldSeen → Option (List ℕ) → List PartSeen → Type 0
PartNested f bytes parts = Nested IsValueMessage (map member) (plain_parts f) f.payload_place bytes parts

pub part_value : (f : FieldSeen) (bytes : List ℕ) (name : List ℕ) (old new : Draft) (r : Result (Result (Unit {0}) UnfitAt) Stop) → bytes_of 2 f ≡ Some bytes → ValueRead f.payload_place bytes old new r → PartRead f name name old new r
part_value f bytes name old new (Ok read) is h = record {
  parts = map member h.members;
  gives = subst (λ (o : Option (List ℕ)). PartNested f o (map member h.members)) (sym is) (h.members, h.is_value, refl);
  bad_is = h.bad_is ∙ ap bad_text (sym (texts_of_members h.members));
  key_is = λ good. sym (last_key_members name h.members);
  added = λ good. rw (members_of_members h.members) (h.added good);
}
part_value f bytes name old new (Err (Wire e)) is h = subst (λ (o : Option (List ℕ)). FaultIn ValueFault f.payload_place o e) (sym is) h
part_value f bytes name old new (Err NoMemory) is h = tt

key_gives : (f : FieldSeen) (bytes : List ℕ) → bytes_of 2 f ≡ None → bytes_of 1 f ≡ Some bytes → PartNested f (bytes_of 2 f) (key (record { place = f.payload_place; bytes = bytes }) ∷ [])
key_gives f bytes no_value is =
    subst (λ (o : Option (List ℕ)). PartNested f o (key (record { place = f.payload_place; bytes = bytes }) ∷ [])) (sym no_value)
    (ap (λ (o : Option (List ℕ)). map key (texts_from f.payload_place o)) (sym is))

pub part_key : (f : FieldSeen) (bytes read name : List ℕ) (old : Draft) → bytes_of 2 f ≡ None → bytes_of 1 f ≡ Some bytes → TextRead f.payload_place bytes (Ok read) → PartGiven f name read old old None
part_key f bytes read name old no_value is h = record {
  parts = key (record { place = f.payload_place; bytes = bytes }) ∷ [];
  gives = key_gives f bytes no_value is;
  bad_is = sym (bad_among-one texts_of_part (key (record { place = f.payload_place; bytes = bytes })) ∙ h.1);
  key_is = λ good. h.0;
  added = λ good. drafts_none old;
}

pub part_no_key : (f : FieldSeen) (bytes : List ℕ) (at : UnfitAt) (name next : List ℕ) (old new : Draft) → bytes_of 2 f ≡ None → bytes_of 1 f ≡ Some bytes → TextRead f.payload_place bytes (Err at) → PartGiven f name next old new (Some at.0)
part_no_key f bytes at name next old new no_value is h = record {
  parts = key (record { place = f.payload_place; bytes = bytes }) ∷ [];
  gives = key_gives f bytes no_value is;
  bad_is = sym (bad_among-one texts_of_part (key (record { place = f.payload_place; bytes = bytes })) ∙ h);
  key_is = λ good. absurd (some_not_none at.0 good);
  added = λ good. absurd (some_not_none at.0 good);
}

-- ---- an entry

abbrev entry_of : (f : FieldSeen) → List PartSeen → EntrySeen
entry_of f parts = record { place = f.place; parts = parts }

entry_gives : (f : FieldSeen) (bytes : List ℕ) (parts : List PartSeen) → bytes_of 1 f ≡ Some bytes → IsEntryMessage f.payload_place bytes parts → Nested IsEntryMessage (entry_at f.place) [] f.payload_place (bytes_of 1 f) (entry_of f parts ∷ [])
entry_gives f bytes parts is h = subst (λ (o : Option (List ℕ)). Nested IsEntryMessage (entry_at f.place) [] f.payload_place o (entry_of f parts ∷ [])) (sym is) (parts, h, refl)

bad_more : (earlier : List EntrySeen) (e : EntrySeen) (old_bad bad new_bad : Option ℕ) → old_bad ≡ bad_entry earlier → bad ≡ bad_part e.parts → new_bad ≡ least old_bad bad → new_bad ≡ bad_entry (earlier ++ e ∷ [])
bad_more earlier e old_bad bad new_bad was is sum =
    sum ∙ ap (λ (b : Option ℕ). least b bad) was ∙ ap (least (bad_entry earlier)) (is ∙ sym (bad_among-one texts_of_entry e)) ∙ sym (bad_among-append texts_of_entry earlier (e ∷ []))

short_one : (e : EntrySeen) → length (key_of e) ≤ 1024 → long_key (e ∷ []) ≡ None
short_one e short = rw (le-ltb 1024 (length (key_of e)) short) refl

long_one : (e : EntrySeen) → 1024 < length (key_of e) → long_key (e ∷ []) ≡ Some e.place
long_one e long = rw (lt-ltb 1024 (length (key_of e)) long) refl

map_end : (earlier : List EntrySeen) (e : EntrySeen) → map entry_said (earlier ++ e ∷ []) ≡ map entry_said earlier ++ entry_said e ∷ []
map_end [] e = refl
map_end (first ∷ earlier) e = ap (λ (rest : List PrefEntry). entry_said first ∷ rest) (map_end earlier e)

abbrev pub with_both : List ℕ → Option PrefValue → PrefEntry
with_both name value = record { key = name; value = value }

abbrev pub push : List PrefEntry → PrefEntry → List PrefEntry
push entries entry = entries ++ entry ∷ []

said_more : (earlier : List EntrySeen) (e : EntrySeen) (old new : List PrefEntry) (name : List ℕ) (value : Option PrefValue) → old ≡ map entry_said earlier → name ≡ key_of e → value ≡ value_of e → new ≡ push old (with_both name value) → new ≡ map entry_said (earlier ++ e ∷ [])
said_more earlier e old new name value was is_key is_value pushed =
    pushed ∙ ap (λ (entries : List PrefEntry). push entries (with_both name value)) was ∙ ap (λ (n : List ℕ). push (map entry_said earlier) (with_both n value)) is_key
    ∙ ap (λ (v : Option PrefValue). push (map entry_said earlier) (with_both (key_of e) v)) is_value ∙ sym (map_end earlier e)

pub pushed_as : (old new : List PrefEntry) (name same : List ℕ) (value settled_value : Option PrefValue) → new ≡ push old (with_both name value) → name ≡ same → value ≡ settled_value → new ≡ push old (with_both same settled_value)
pushed_as old new name same value settled_value is is_key is_value = rw (is_key, is_value) at is

pub entry_added : (f : FieldSeen) (bytes : List ℕ) (found : EntryFound) (old new : MapFound) → bytes_of 1 f ≡ Some bytes → EntryIs f.payload_place bytes found → unfit_place new.texts ≡ least (unfit_place old.texts) (unfit_place found.texts) → length found.key ≤ 1024 → unfit_place new.keys ≡ unfit_place old.keys → new.entries ≡ push old.entries (with_both found.key (settled found.draft)) → EntryGiven f old new
entry_added f bytes found old new is h bad_is short same pushed =
    let e = entry_of f h.parts in
    record {
      entries = e ∷ [];
      gives = entry_gives f bytes h.parts is h.is_entry;
      added = λ earlier a. record {
        bad_is = bad_more earlier e (unfit_place old.texts) (unfit_place found.texts) (unfit_place new.texts) a.bad_is h.bad_is bad_is;
        long_is = λ good.
            let both = none_of_least (unfit_place old.texts) (unfit_place found.texts) (sym bad_is ∙ good) in
            let fits : length (key_of e) ≤ 1024 = subst (λ (n : List ℕ). length n ≤ 1024) (h.key_is both.1) short in
            same ∙ a.long_is both.0 ∙ sym (least_none (long_key earlier)) ∙ ap (least (long_key earlier)) (sym (short_one e fits)) ∙ sym (long_key-append earlier (e ∷ []));
        said_is = λ good none_long.
            let both = none_of_least (unfit_place old.texts) (unfit_place found.texts) (sym bad_is ∙ good) in
            said_more earlier e old.entries new.entries found.key (settled found.draft) (a.said_is both.0 (sym same ∙ none_long)) (h.key_is both.1) (ap settled (h.draft_is both.1) ∙ settled_back _) pushed;
      };
    }

pub entry_long : (f : FieldSeen) (bytes : List ℕ) (found : EntryFound) (old new : MapFound) → bytes_of 1 f ≡ Some bytes → EntryIs f.payload_place bytes found → unfit_place new.texts ≡ least (unfit_place old.texts) (unfit_place found.texts) → 1024 < length found.key → unfit_place new.keys ≡ least (unfit_place old.keys) (Some f.place) → EntryGiven f old new
entry_long f bytes found old new is h bad_is long sum =
    let e = entry_of f h.parts in
    record {
      entries = e ∷ [];
      gives = entry_gives f bytes h.parts is h.is_entry;
      added = λ earlier a. record {
        bad_is = bad_more earlier e (unfit_place old.texts) (unfit_place found.texts) (unfit_place new.texts) a.bad_is h.bad_is bad_is;
        long_is = λ good.
            let both = none_of_least (unfit_place old.texts) (unfit_place found.texts) (sym bad_is ∙ good) in
            let exceeds : 1024 < length (key_of e) = subst (λ (n : List ℕ). 1024 < length n) (h.key_is both.1) long in
            sum ∙ ap (λ (b : Option ℕ). least b (Some f.place)) (a.long_is both.0) ∙ ap (least (long_key earlier)) (sym (long_one e exceeds)) ∙ sym (long_key-append earlier (e ∷ []));
        said_is = λ good none_long. absurd (some_not_none f.place (none_of_least (unfit_place old.keys) (Some f.place) (sym sum ∙ none_long)).1);
      };
    }
