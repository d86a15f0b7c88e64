-- A file has one list of entries at most, and reads as one map at most.
use Rattle.std.proofs.Common.{◌≡◌, ℕ, List, [], ◌∷◌, ◌++◌, map, Option, None, Some, refl, sym, ap, subst, ◌∙◌}
use Rattle.std.specs.Option.{option_map}
use Rattle.wire_codec.specs.Fields.{FieldSeen}
use Rattle.wire_codec.proofs.Unique.{fields_once}
use Rattle.prefs_model.specs.declared.pref_pair.PrefPair.{PrefPair}
use Rattle.prefs_model.specs.declared.pref_value.PrefValue.{PrefValue}
use Rattle.prefs_model.specs.Map.{value_at}
use Rattle.prefs_model.proofs.Maps.{same_from_value_at}
use Rattle.prefs_proto.specs.Message.{bytes_of, Gathers, Message, Nested}
use Rattle.prefs_proto.specs.Layout.{TextSeen, texts_from, SetGives, IsStringSet, MemberSeen, set_member, members_from, scalar_of, ValueGives, IsValueMessage, PartSeen, key, member, EntryGives, IsEntryMessage, EntrySeen, entry_at, MapGives, HasEntries}
use Rattle.prefs_proto.specs.Reads.{last_value, Reads}

-- ---- one message

module _ {X : Type 0} (Gives : FieldSeen → List X → Type 0) where
  gathers_once : ((f : FieldSeen) (xs ys : List X) → Gives f xs → Gives f ys → xs ≡ ys) → (fields : List FieldSeen) (xs ys : List X) → Gathers Gives fields xs → Gathers Gives fields ys → xs ≡ ys
  gathers_once once [] xs ys p q = p ∙ sym q
  gathers_once once (f ∷ fields) xs ys p q =
      p.2 ∙ ap (λ (a : List X). a ++ p.1) (once f p.0 q.0 p.3 q.3) ∙ ap (λ (b : List X). q.0 ++ b) (gathers_once once fields p.1 q.1 p.4 q.4) ∙ sym q.2

  pub message_once : ((f : FieldSeen) (xs ys : List X) → Gives f xs → Gives f ys → xs ≡ ys) → (at : ℕ) (bytes : List ℕ) (xs ys : List X) → Message Gives at bytes xs → Message Gives at bytes ys → xs ≡ ys
  message_once once at bytes xs ys m n =
      let same = fields_once n.fields m.fields n.are_fields m.are_fields refl in
      gathers_once once m.fields xs ys m.gathered (subst (λ (fields : List FieldSeen). Gathers Gives fields ys) same n.gathered)

module _ {X Y : Type 0} (IsInner : ℕ → List ℕ → List Y → Type 0) (wrap : List Y → List X) (plain : List X) where
  pub nested_once : ((at : ℕ) (bytes : List ℕ) (xs ys : List Y) → IsInner at bytes xs → IsInner at bytes ys → xs ≡ ys) → (place : ℕ) (bytes : Option (List ℕ)) (xs ys : List X) → Nested IsInner wrap plain place bytes xs → Nested IsInner wrap plain place bytes ys → xs ≡ ys
  nested_once once place None xs ys p q = p ∙ sym q
  nested_once once place (Some bytes) xs ys p q = p.2 ∙ ap wrap (once place bytes p.0 q.0 p.1 q.1) ∙ sym q.2

-- ---- one list of entries

set_once : (at : ℕ) (bytes : List ℕ) (xs ys : List TextSeen) → IsStringSet at bytes xs → IsStringSet at bytes ys → xs ≡ ys
set_once at bytes xs ys p q = message_once SetGives (λ f xs ys p q. p ∙ sym q) at bytes xs ys p q

abbrev pub plain_members : FieldSeen → List MemberSeen
plain_members f = members_from f.payload_place (bytes_of 5 f) (scalar_of f.number f.payload)

value_once : (at : ℕ) (bytes : List ℕ) (xs ys : List MemberSeen) → IsValueMessage at bytes xs → IsValueMessage at bytes ys → xs ≡ ys
value_once at bytes xs ys p q = message_once ValueGives (λ f xs ys p q. nested_once IsStringSet set_member (plain_members f) set_once f.payload_place (bytes_of 6 f) xs ys p q) at bytes xs ys p q

abbrev pub plain_parts : FieldSeen → List PartSeen
plain_parts f = map key (texts_from f.payload_place (bytes_of 1 f))

entry_once : (at : ℕ) (bytes : List ℕ) (xs ys : List PartSeen) → IsEntryMessage at bytes xs → IsEntryMessage at bytes ys → xs ≡ ys
entry_once at bytes xs ys p q = message_once EntryGives (λ f xs ys p q. nested_once IsValueMessage (map member) (plain_parts f) value_once f.payload_place (bytes_of 2 f) xs ys p q) at bytes xs ys p q

pub entries_once : (bytes : List ℕ) (xs ys : List EntrySeen) → HasEntries bytes xs → HasEntries bytes ys → xs ≡ ys
entries_once bytes xs ys p q = message_once MapGives (λ f xs ys p q. nested_once IsEntryMessage (entry_at f.place) [] entry_once f.payload_place (bytes_of 1 f) xs ys p q) 0 bytes xs ys p q

-- ---- one map

some_once : (a b : Option PrefValue) → option_map Some a ≡ option_map Some b → a ≡ b
some_once None None is = refl
some_once None (Some w) is = cc
some_once (Some v) None is = cc
some_once (Some v) (Some w) is = cc

pub reads_once : (bytes : List ℕ) (a b : List PrefPair) → Reads bytes a → Reads bytes b → a ≡ b
reads_once bytes a b r s =
    let same = entries_once bytes r.entries s.entries r.has_entries s.has_entries in
    same_from_value_at a b r.map s.map (λ name. some_once (value_at a name) (value_at b name) (sym (r.values name) ∙ ap (λ (entries : List EntrySeen). last_value entries name) same ∙ s.values name))
