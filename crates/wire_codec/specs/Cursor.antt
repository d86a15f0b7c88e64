-- Where reading stands: the bytes that are left, and the place of the first of them.
use Rattle.std.specs.Prelude.{◌≡◌, ℕ, ◌+◌, ◌<◌, List, ◌∷◌, ◌++◌, length}
use Rattle.wire_codec.specs.declared.open_group.OpenGroup.{OpenGroup}
use Rattle.wire_codec.specs.Varint.{IsVarint}
use Rattle.wire_codec.specs.Tag.{IsTag}
use Rattle.wire_codec.specs.Payload.{PayloadSeen, IsPlain, wire_code}
use Rattle.wire_codec.specs.Fields.{IsGroup, FieldSeen, IsField}

pub record CursorSeen : Type 0 where
  pub rest : List ℕ
  pub place : ℕ

-- reading goes on behind this text
pub record Passes (old : CursorSeen) (text : List ℕ) (new : CursorSeen) : Type 0 where
  pub rest : old.rest ≡ text ++ new.rest
  pub place : new.place ≡ old.place + length text

-- reading goes on behind a varint of the number
pub record PassesVarint (old : CursorSeen) (n : ℕ) (new : CursorSeen) : Type 0 where
  pub text : List ℕ
  pub is_varint : IsVarint text n
  pub passes : Passes old text new

-- reading goes on behind a tag
pub record PassesTag (old : CursorSeen) (number code : ℕ) (new : CursorSeen) : Type 0 where
  pub text : List ℕ
  pub is_tag : IsTag text number code
  pub passes : Passes old text new

-- reading goes on behind a plain payload of this wire type, which begins at the place
pub record PassesPayload (old : CursorSeen) (code : ℕ) (payload : PayloadSeen) (place : ℕ) (new : CursorSeen) : Type 0 where
  pub lead : List ℕ
  pub text : List ℕ
  pub is_plain : IsPlain lead text payload
  pub coded : wire_code payload ≡ code
  pub start : place ≡ old.place + length lead
  pub passes : Passes old (lead ++ text) new

-- reading goes on behind the rest of a group
pub record PassesGroup (old : CursorSeen) (number : ℕ) (new : CursorSeen) : Type 0 where
  pub text : List ℕ
  pub is_group : IsGroup number text
  pub passes : Passes old text new

-- reading goes on behind a field
pub record PassesField (old : CursorSeen) (f : FieldSeen) (new : CursorSeen) : Type 0 where
  pub text : List ℕ
  pub is_field : IsField old.place text f
  pub passes : Passes old text new

-- in an open group, reading goes on behind a plain field, or behind a tag that begins or ends a group
pub data Steps : CursorSeen → List OpenGroup → CursorSeen → List OpenGroup → Type 0 where
  over_field : {old new : CursorSeen} {groups : List OpenGroup} {number : ℕ} (payload : PayloadSeen) (tag lead text : List ℕ)
      → IsTag tag number (wire_code payload) → IsPlain lead text payload → Passes old (tag ++ (lead ++ text)) new → Steps old groups new groups
  into_group : {old new : CursorSeen} {groups : List OpenGroup} {group : OpenGroup} (tag : List ℕ)
      → IsTag tag group.number 3 → group.place ≡ old.place → length groups < 100 → Passes old tag new → Steps old groups new (group ∷ groups)
  out_of_group : {old new : CursorSeen} {groups : List OpenGroup} {group : OpenGroup} (tag : List ℕ)
      → IsTag tag group.number 4 → Passes old tag new → Steps old (group ∷ groups) new groups
