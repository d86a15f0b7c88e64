-- The loops over the fields of each message: what they keep, how a field adds to it, and what they answer.
use Rattle.std.proofs.Common.{◌≡◌, ℕ, List, [], ◌∷◌, ◌++◌, map, Option, None, Err, refl, sym, ap, ◌∙◌, append_assoc}
use Rattle.std.proofs.lemmas.List.{append-nil}
use Rattle.wire_codec.specs.Fields.{FieldSeen}
use Rattle.wire_codec.specs.Reader.{ReaderSeen, TakesField, IsAtEnd}
use Rattle.prefs_proto.specs.declared.draft.Draft.{Draft}
use Rattle.prefs_proto.specs.declared.draft.Draft.TheVariants.{Unset}
use Rattle.prefs_proto.specs.declared.stop.Stop.{Stop}
use Rattle.prefs_proto.specs.declared.stop.Stop.TheVariants.{Wire, NoMemory}
use Rattle.prefs_proto.specs.declared.read_entry.EntryFound.{EntryFound}
use Rattle.prefs_proto.specs.declared.read_map.MapFound.{MapFound}
use Rattle.prefs_proto.specs.Layout.{TextSeen, SetGives, MemberSeen, ValueGives, ValueFaulty, PartSeen, EntryGives, EntryFaulty, EntrySeen, MapGives, MapFaulty}
use Rattle.prefs_proto.specs.Entry.{bytes_of_text, last_key, members_of}
use Rattle.prefs_proto.specs.Reads.{least, bad_text, texts_of_member, texts_of_part}
use Rattle.prefs_proto.specs.Found.{TextGiven, SetAdded, Drafts, bad_member, MemberGiven, MemberRead, ValueAdded, ValueRead, bad_part, PartGiven, PartRead, EntryIs, EntryRead, AreFound, unfit_place, EntryGiven, EntryAdded, MapIs, MapRead}
use Rattle.prefs_proto.proofs.Walk.{Walk, walk_none, walk_more, walk_all, walk_inside}
use Rattle.prefs_proto.specs.Laws.Places.{none_of_least, bad_text-append, bad_among-append}
use Rattle.prefs_proto.proofs.Drafts.{drafts_none, drafts_then, members_of-append, last_key-append}

-- at the first byte of a message
abbrev pub start : ℕ → List ℕ → ReaderSeen
start at message = record { rest = message; place = at; failed = None }

-- ---- a string set

pub record SetWalk (at : ℕ) (message : List ℕ) (old now : List (List ℕ)) (reader : ReaderSeen) (bad : Option ℕ) : Type 0 where
  pub all : List TextSeen
  pub walk : Walk SetGives at message reader all
  pub bad_is : bad ≡ bad_text all
  pub added : bad ≡ None → now ≡ old ++ map bytes_of_text all

pub set_none : (at : ℕ) (message : List ℕ) (old : List (List ℕ)) → SetWalk at message old old (start at message) None
set_none at message old = record { all = []; walk = walk_none SetGives at message; bad_is = refl; added = λ good. sym (append-nil old) }

map-append : (xs ys : List TextSeen) → map bytes_of_text (xs ++ ys) ≡ map bytes_of_text xs ++ map bytes_of_text ys
map-append [] ys = refl
map-append (x ∷ xs) ys = ap (λ (b : List (List ℕ)). bytes_of_text x ∷ b) (map-append xs ys)

pub set_more : (at : ℕ) (message : List ℕ) (old now next : List (List ℕ)) (reader after : ReaderSeen) (f : FieldSeen) (bad more : Option ℕ) → SetWalk at message old now reader bad → TakesField reader f after → TextGiven f now next more → SetWalk at message old next after (least bad more)
set_more at message old now next reader after f bad more w takes given = record {
  all = w.all ++ given.all;
  walk = walk_more SetGives at message reader after f w.all given.all w.walk takes given.gives;
  bad_is = ap (λ (b : Option ℕ). least b more) w.bad_is ∙ ap (least (bad_text w.all)) given.bad_is ∙ sym (bad_text-append w.all given.all);
  added = λ good.
      let both = none_of_least bad more good in
      given.added both.1 ∙ ap (λ (t : List (List ℕ)). t ++ map bytes_of_text given.all) (w.added both.0) ∙ append_assoc old (map bytes_of_text w.all) (map bytes_of_text given.all)
      ∙ ap (λ (t : List (List ℕ)). old ++ t) (sym (map-append w.all given.all));
}

pub set_all : (at : ℕ) (message : List ℕ) (old now : List (List ℕ)) (reader after : ReaderSeen) (bad : Option ℕ) → SetWalk at message old now reader bad → IsAtEnd reader after → SetAdded at message old now bad
set_all at message old now reader after bad w end = record { all = w.all; is_set = walk_all SetGives at message reader after w.all w.walk end; bad_is = w.bad_is; added = w.added }

-- ---- a value

pub record ValueWalk (at : ℕ) (message : List ℕ) (old now : Draft) (reader : ReaderSeen) (bad : Option ℕ) : Type 0 where
  pub members : List MemberSeen
  pub walk : Walk ValueGives at message reader members
  pub bad_is : bad ≡ bad_member members
  pub added : bad ≡ None → Drafts members old now

pub value_none : (at : ℕ) (message : List ℕ) (old : Draft) → ValueWalk at message old old (start at message) None
value_none at message old = record { members = []; walk = walk_none ValueGives at message; bad_is = refl; added = λ good. drafts_none old }

pub value_more : (at : ℕ) (message : List ℕ) (old now next : Draft) (reader after : ReaderSeen) (f : FieldSeen) (bad more : Option ℕ) → ValueWalk at message old now reader bad → TakesField reader f after → MemberGiven f now next more → ValueWalk at message old next after (least bad more)
value_more at message old now next reader after f bad more w takes given = record {
  members = w.members ++ given.members;
  walk = walk_more ValueGives at message reader after f w.members given.members w.walk takes given.gives;
  bad_is = ap (λ (b : Option ℕ). least b more) w.bad_is ∙ ap (least (bad_member w.members)) given.bad_is ∙ sym (bad_among-append texts_of_member w.members given.members);
  added = λ good.
      let both = none_of_least bad more good in
      drafts_then w.members given.members old now next (w.added both.0) (given.added both.1);
}

pub value_all : (at : ℕ) (message : List ℕ) (old now : Draft) (reader after : ReaderSeen) (bad : Option ℕ) → ValueWalk at message old now reader bad → IsAtEnd reader after → ValueAdded at message old now bad
value_all at message old now reader after bad w end = record { members = w.members; is_value = walk_all ValueGives at message reader after w.members w.walk end; bad_is = w.bad_is; added = w.added }

-- a fault in a member
pub value_stop : (at : ℕ) (message : List ℕ) (old now next : Draft) (reader after : ReaderSeen) (f : FieldSeen) (bad : Option ℕ) (stop : Stop) → ValueWalk at message old now reader bad → TakesField reader f after → MemberRead f now next (Err stop) → ValueRead at message old next (Err stop)
value_stop at message old now next reader after f bad (Wire e) w takes h = walk_inside ValueGives ValueFaulty at message reader after f w.members e w.walk takes h
value_stop at message old now next reader after f bad NoMemory w takes h = tt

-- ---- an entry

pub record EntryWalk (at : ℕ) (message : List ℕ) (name : List ℕ) (draft : Draft) (reader : ReaderSeen) (bad : Option ℕ) : Type 0 where
  pub parts : List PartSeen
  pub walk : Walk EntryGives at message reader parts
  pub bad_is : bad ≡ bad_part parts
  pub key_is : bad ≡ None → name ≡ last_key [] parts
  pub added : bad ≡ None → Drafts (members_of parts) Unset draft

pub entry_none : (at : ℕ) (message : List ℕ) (name : List ℕ) → name ≡ [] → EntryWalk at message name Unset (start at message) None
entry_none at message name is = record { parts = []; walk = walk_none EntryGives at message; bad_is = refl; key_is = λ good. is; added = λ good. drafts_none Unset }

pub entry_more : (at : ℕ) (message : List ℕ) (name next_name : List ℕ) (draft next : Draft) (reader after : ReaderSeen) (f : FieldSeen) (bad more : Option ℕ) → EntryWalk at message name draft reader bad → TakesField reader f after → PartGiven f name next_name draft next more → EntryWalk at message next_name next after (least bad more)
entry_more at message name next_name draft next reader after f bad more w takes given = record {
  parts = w.parts ++ given.parts;
  walk = walk_more EntryGives at message reader after f w.parts given.parts w.walk takes given.gives;
  bad_is = ap (λ (b : Option ℕ). least b more) w.bad_is ∙ ap (least (bad_part w.parts)) given.bad_is ∙ sym (bad_among-append texts_of_part w.parts given.parts);
  key_is = λ good.
      let both = none_of_least bad more good in
      given.key_is both.1 ∙ ap (λ (k : List ℕ). last_key k given.parts) (w.key_is both.0) ∙ sym (last_key-append [] w.parts given.parts);
  added = λ good.
      let both = none_of_least bad more good in
      rw (members_of-append w.parts given.parts) (drafts_then (members_of w.parts) (members_of given.parts) Unset draft next (w.added both.0) (given.added both.1));
}

pub entry_all : (at : ℕ) (message : List ℕ) (reader after : ReaderSeen) (found : EntryFound) → EntryWalk at message found.key found.draft reader (unfit_place found.texts) → IsAtEnd reader after → EntryIs at message found
entry_all at message reader after found w end = record {
  parts = w.parts;
  is_entry = walk_all EntryGives at message reader after w.parts w.walk end;
  bad_is = w.bad_is;
  key_is = w.key_is;
  draft_is = λ good. w.added good [] refl;
}

-- a fault in a part
pub entry_stop : (at : ℕ) (message : List ℕ) (name next_name : List ℕ) (draft next : Draft) (reader after : ReaderSeen) (f : FieldSeen) (bad : Option ℕ) (stop : Stop) → EntryWalk at message name draft reader bad → TakesField reader f after → PartRead f name next_name draft next (Err stop) → EntryRead at message (Err stop)
entry_stop at message name next_name draft next reader after f bad (Wire e) w takes h = walk_inside EntryGives EntryFaulty at message reader after f w.parts e w.walk takes h
entry_stop at message name next_name draft next reader after f bad NoMemory w takes h = tt

-- ---- the map

pub record MapWalk (message : List ℕ) (found : MapFound) (reader : ReaderSeen) : Type 0 where
  pub entries : List EntrySeen
  pub walk : Walk MapGives 0 message reader entries
  pub are_found : AreFound entries found

pub map_none : (message : List ℕ) (found : MapFound) → found.entries ≡ [] → unfit_place found.texts ≡ None → unfit_place found.keys ≡ None → MapWalk message found (start 0 message)
map_none message found entries bad long = record {
  entries = [];
  walk = walk_none MapGives 0 message;
  are_found = record { bad_is = bad; long_is = λ good. long; said_is = λ good short. entries };
}

pub map_more : (message : List ℕ) (old new : MapFound) (reader after : ReaderSeen) (f : FieldSeen) → MapWalk message old reader → TakesField reader f after → EntryGiven f old new → MapWalk message new after
map_more message old new reader after f w takes given = record {
  entries = w.entries ++ given.entries;
  walk = walk_more MapGives 0 message reader after f w.entries given.entries w.walk takes given.gives;
  are_found = given.added w.entries w.are_found;
}

pub map_all : (message : List ℕ) (found : MapFound) (reader after : ReaderSeen) → MapWalk message found reader → IsAtEnd reader after → MapIs message found
map_all message found reader after w end = record {
  entries = w.entries;
  has_entries = walk_all MapGives 0 message reader after w.entries w.walk end;
  are_found = w.are_found;
}

-- a fault in an entry
pub map_stop : (T : Type 0) (message : List ℕ) (old new : MapFound) (reader after : ReaderSeen) (f : FieldSeen) (stop : Stop) → MapWalk message old reader → TakesField reader f after → EntryAdded {T = T} f old new (Err stop) → MapRead message (Err stop)
map_stop T message old new reader after f (Wire e) w takes h = walk_inside MapGives MapFaulty 0 message reader after f w.entries e w.walk takes h
map_stop T message old new reader after f NoMemory w takes h = tt
