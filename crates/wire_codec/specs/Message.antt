-- A whole message.
use Rattle.std.specs.Prelude.{◌≡◌, ℕ, List, length}
use Rattle.wire_codec.specs.Fields.{FieldSeen, Fields}

-- the message, whose first byte has the place, is so many fields
pub record HasCount (at : ℕ) (message : List ℕ) (count : ℕ) : Type 0 where
  pub fields : List FieldSeen
  pub are_fields : Fields at message fields
  pub counted : count ≡ length fields
