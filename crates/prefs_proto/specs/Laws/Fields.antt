-- The fields of a text are fields of the wire format, and messages are made of them.
use Rattle.std.proofs.Common.{◌≡◌, ℕ, ◌+◌, ◌^◌, ◌<◌, ◌≤◌, List, [], ◌∷◌, ◌++◌, length, refl, sym, subst, arith, length-append}
use Rattle.std.proofs.lemmas.List.{append-nil}
use Rattle.wire_codec.specs.Payload.{PayloadSeen, delimited}
use Rattle.wire_codec.specs.Fields.{FieldSeen, IsField, none, more}
use Rattle.wire_codec.specs.Text.{base_128, varint_text, field_text, written_field, IsWritable}
use Rattle.wire_codec.proofs.Texts.{written_is_field}
use Rattle.prefs_proto.specs.FieldText.{field}
use Rattle.prefs_proto.specs.Message.{Message}

pub length-field : (tag : ℕ) (content : List ℕ) → length (field tag content) ≡ 1 + length (varint_text (length content)) + length content
unfolding field
length-field tag content = omega (arith, length-append (varint_text (length content)) content)

-- ---- one spelling of fields

pub field_1 : (bytes : List ℕ) → field 0x0a bytes ≡ field_text 1 (delimited bytes)
unfolding field base_128
field_1 bytes = refl

pub field_2 : (bytes : List ℕ) → field 0x12 bytes ≡ field_text 2 (delimited bytes)
unfolding field base_128
field_2 bytes = refl

pub field_5 : (bytes : List ℕ) → field 0x2a bytes ≡ field_text 5 (delimited bytes)
unfolding field base_128
field_5 bytes = refl

pub field_6 : (bytes : List ℕ) → field 0x32 bytes ≡ field_text 6 (delimited bytes)
unfolding field base_128
field_6 bytes = refl

-- the bytes are the field that is written so
pub is_written : (at number : ℕ) (payload : PayloadSeen) (bytes : List ℕ) → 1 ≤ number → number < 2 ^ 29 → IsWritable payload → bytes ≡ field_text number payload → IsField at bytes (written_field at number payload)
is_written at number payload bytes from to fits is = subst (λ (b : List ℕ). IsField at b (written_field at number payload)) (sym is) (written_is_field at number payload from to fits)

-- ---- messages

module _ {X : Type 0} (Gives : FieldSeen → List X → Type 0) where
  pub message_none : (at : ℕ) → Message Gives at [] []
  message_none at = record { fields = []; are_fields = none; gathered = refl }

  pub message_more : (at : ℕ) (front rest : List ℕ) (f : FieldSeen) (first items : List X) → IsField at front f → Gives f first → Message Gives (at + length front) rest items → Message Gives at (front ++ rest) (first ++ items)
  message_more at front rest f first items is gives m = record {
    fields = f ∷ m.fields;
    are_fields = more front rest refl is m.are_fields;
    gathered = (first, items, refl, gives, m.gathered);
  }

  -- one field that gives all the items
  pub message_field : (at : ℕ) (front : List ℕ) (f : FieldSeen) (items : List X) → IsField at front f → Gives f items → Message Gives at front items
  message_field at front f items is gives =
      let one : Message Gives at (front ++ []) (items ++ []) = message_more at front [] f items [] is gives (message_none (at + length front)) in
      let bare : Message Gives at front (items ++ []) = subst (λ (b : List ℕ). Message Gives at b (items ++ [])) (append-nil front) one in
      subst (λ (all : List X). Message Gives at front all) (append-nil items) bare

  pub message_one : (at : ℕ) (front : List ℕ) (f : FieldSeen) (x : X) → IsField at front f → Gives f (x ∷ []) → Message Gives at front (x ∷ [])
  message_one at front f x is gives =
      subst (λ (b : List ℕ). Message Gives at b (x ∷ [])) (append-nil front) (message_more at front [] f (x ∷ []) [] is gives (message_none (at + length front)))
