-- A message whose fields each give some items, one after the other, or have a fault inside.
use Rattle.std.specs.Prelude.{ℕ, ◌≡◌, ◌+◌, ◌⊎◌, ◌==◌, List, [], ◌∷◌, ◌++◌, length, Option, None, Some, if◌then◌else◌}
use Rattle.wire_codec.specs.declared.wire_error.WireError.{WireError}
use Rattle.wire_codec.specs.Payload.{PayloadSeen, delimited}
use Rattle.wire_codec.specs.Fields.{FieldSeen, IsField, Fields}
use Rattle.wire_codec.specs.Faults.{FieldFault}

-- ---- what is read

-- what each of the fields gives, in order
abbrev pub Gathers : {X : Type 0} → (FieldSeen → List X → Type 0) → List FieldSeen → List X → Type 0
Gathers Gives [] items = items ≡ []
Gathers {X} Gives (f ∷ fields) items = (first : List X) × (others : List X) × (items ≡ first ++ others) × Gives f first × Gathers Gives fields others

-- the bytes, whose first has the place, are fields that give these items
pub record Message {X : Type 0} (Gives : FieldSeen → List X → Type 0) (at : ℕ) (bytes : List ℕ) (items : List X) : Type 0 where
  pub fields : List FieldSeen
  pub are_fields : Fields at bytes fields
  pub gathered : Gathers Gives fields items

-- ---- the first fault

-- the bytes begin with a field that has this fault inside
pub record FaultInside (IsFaulty : FieldSeen → WireError → Type 0) (at : ℕ) (bytes : List ℕ) (e : WireError) : Type 0 where
  pub f : FieldSeen
  pub text : List ℕ
  pub behind : List ℕ
  pub parts : bytes ≡ text ++ behind
  pub is_field : IsField at text f
  pub fault : IsFaulty f e

-- Before the fault stand whole fields that are read. Then the bytes begin with no field, or with one that has a fault inside.
pub record MessageFault {X : Type 0} (Gives : FieldSeen → List X → Type 0) (IsFaulty : FieldSeen → WireError → Type 0) (at : ℕ) (bytes : List ℕ) (e : WireError) : Type 0 where
  pub before : List ℕ
  pub rest : List ℕ
  pub items : List X
  pub parts : bytes ≡ before ++ rest
  pub read : Message Gives at before items
  pub fault : FieldFault (at + length before) rest e ⊎ FaultInside IsFaulty (at + length before) rest e

-- ---- messages in messages

abbrev pub bytes_under : ℕ → ℕ → PayloadSeen → Option (List ℕ)
bytes_under wanted number (delimited bytes) = if number == wanted then Some bytes else None
bytes_under wanted number other = None

-- the bytes of a field with this number and wire type 2
abbrev pub bytes_of : ℕ → FieldSeen → Option (List ℕ)
bytes_of number f = bytes_under number f.number f.payload

-- the bytes, whose first has the place, are read as an inner message; without them these items stand
abbrev pub Nested : {X Y : Type 0} → (ℕ → List ℕ → List Y → Type 0) → (List Y → List X) → List X → ℕ → Option (List ℕ) → List X → Type 0
Nested {X} {Y} IsInner wrap plain place (Some bytes) items = (inner : List Y) × IsInner place bytes inner × (items ≡ wrap inner)
Nested IsInner wrap plain place None items = items ≡ plain

-- the bytes, if there are some, have this fault
abbrev pub FaultIn : (ℕ → List ℕ → WireError → Type 0) → ℕ → Option (List ℕ) → WireError → Type 0
FaultIn IsFault place (Some bytes) e = IsFault place bytes e
FaultIn IsFault place None e = ⊥
