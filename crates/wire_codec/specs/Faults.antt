-- The faults of a message, in the order in which they are met.
use Rattle.std.specs.Prelude.{◌≡◌, ℕ, ◌+◌, ◌-◌, ◌%◌, ◌^◌, ◌<◌, ◌≤◌, List, [], ◌∷◌, ◌++◌, length}
use Rattle.wire_codec.specs.declared.open_group.OpenGroup.{OpenGroup}
use Rattle.wire_codec.specs.declared.wire_error.WireError.{WireError}
use Rattle.wire_codec.specs.declared.wire_error.WireError.TheVariants.{VarintTooLong, TagTooLarge, FieldZero, BadWireType, PastEnd, LoneEndGroup, GroupOpen, TooDeep}
use Rattle.wire_codec.specs.Varint.{IsVarint, IsCut, IsTooLong}
use Rattle.wire_codec.specs.Tag.{IsTag}
use Rattle.wire_codec.specs.Fields.{IsBody, FieldSeen, Fields}

-- no varint stands at this place
pub data VarintFault : ℕ → List ℕ → WireError → Type 0 where
  too_long : {at : ℕ} {rest : List ℕ} → IsTooLong rest → VarintFault at rest (VarintTooLong at)
  cut : {at : ℕ} {rest : List ℕ} → IsCut rest → VarintFault at rest (PastEnd at)

-- no tag stands at this place
pub data TagFault : ℕ → List ℕ → WireError → Type 0 where
  no_varint : {at : ℕ} {rest : List ℕ} {e : WireError} → VarintFault at rest e → TagFault at rest e
  too_large : {at v : ℕ} {rest : List ℕ} (text more : List ℕ) → rest ≡ text ++ more → IsVarint text v → 2 ^ 32 ≤ v → TagFault at rest (TagTooLarge at)
  no_number : {at v : ℕ} {rest : List ℕ} (text more : List ℕ) → rest ≡ text ++ more → IsVarint text v → v < 8 → TagFault at rest (FieldZero at)
  no_wire_type : {at v : ℕ} {rest : List ℕ} (text more : List ℕ) → rest ≡ text ++ more → IsVarint text v → 8 ≤ v → v < 2 ^ 32 → 6 ≤ v % 8 → TagFault at rest (BadWireType at)

-- no payload of this wire type stands at this place
pub data PayloadFault : ℕ → ℕ → List ℕ → WireError → Type 0 where
  varint_fault : {at : ℕ} {rest : List ℕ} {e : WireError} → VarintFault at rest e → PayloadFault at 0 rest e
  eight_cut : {at : ℕ} {rest : List ℕ} → length rest < 8 → PayloadFault at 1 rest (PastEnd at)
  length_fault : {at : ℕ} {rest : List ℕ} {e : WireError} → VarintFault at rest e → PayloadFault at 2 rest e
  text_cut : {at n : ℕ} {rest : List ℕ} (lead more : List ℕ) → rest ≡ lead ++ more → IsVarint lead n → length more < n → PayloadFault at 2 rest (PastEnd (at + length lead))
  four_cut : {at : ℕ} {rest : List ℕ} → length rest < 4 → PayloadFault at 5 rest (PastEnd at)

-- The bytes are nothing, or the front of a field that is a group: the start tag of each open group, the
-- innermost of them first in the list, and behind it fields that are whole.
pub data Opened : ℕ → List ℕ → List OpenGroup → Type 0 where
  shut : {at : ℕ} → Opened at [] []
  inside : {at : ℕ} {bytes : List ℕ} {group : OpenGroup} {outer : List OpenGroup} (before tag body : List ℕ) → bytes ≡ before ++ (tag ++ body)
      → Opened at before outer → group.place ≡ at + length before → IsTag tag group.number 3 → length outer < 100 → IsBody (99 - length outer) body → Opened at bytes (group ∷ outer)

-- an end tag of this number ends the innermost open group
abbrev pub Closes : ℕ → List OpenGroup → Type 0
Closes number [] = ⊥
Closes number (group ∷ outer) = group.number ≡ number

-- with these groups open, this is wrong with what begins at this place
pub data FaultAt : ℕ → List OpenGroup → List ℕ → WireError → Type 0 where
  bad_tag : {at : ℕ} {groups : List OpenGroup} {rest : List ℕ} {e : WireError} → 0 < length rest → TagFault at rest e → FaultAt at groups rest e
  bad_payload : {at number code : ℕ} {groups : List OpenGroup} {rest : List ℕ} {e : WireError} (tag more : List ℕ) → rest ≡ tag ++ more
      → IsTag tag number code → PayloadFault (at + length tag) code more e → FaultAt at groups rest e
  lone_end : {at number : ℕ} {groups : List OpenGroup} {rest : List ℕ} (tag more : List ℕ) → rest ≡ tag ++ more
      → IsTag tag number 4 → ¬ (Closes number groups) → FaultAt at groups rest (LoneEndGroup at)
  too_deep : {at number : ℕ} {groups : List OpenGroup} {rest : List ℕ} (tag more : List ℕ) → rest ≡ tag ++ more
      → IsTag tag number 3 → length groups ≡ 100 → FaultAt at groups rest (TooDeep at)
  no_end : {at : ℕ} {group : OpenGroup} {outer : List OpenGroup} → FaultAt at (group ∷ outer) [] (GroupOpen group.place)

-- The bytes, whose first has the place, begin with no field, and this is the first fault in them.
pub record FieldFault (at : ℕ) (bytes : List ℕ) (e : WireError) : Type 0 where
  pub front : List ℕ
  pub rest : List ℕ
  pub groups : List OpenGroup
  pub parts : bytes ≡ front ++ rest
  pub opened : Opened at front groups
  pub fault : FaultAt (at + length front) groups rest e

-- The bytes are no message, and this is the first fault in them: before it stand fields, or the front of a group.
pub record FirstFault (at : ℕ) (bytes : List ℕ) (e : WireError) : Type 0 where
  pub before : List ℕ
  pub rest : List ℕ
  pub fields : List FieldSeen
  pub parts : bytes ≡ before ++ rest
  pub are_fields : Fields at before fields
  pub fault : FieldFault (at + length before) rest e
