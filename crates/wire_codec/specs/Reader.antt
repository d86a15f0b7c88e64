-- Reading the fields of a message one after the other.
use Rattle.std.specs.Prelude.{◌≡◌, ℕ, ◌+◌, ◌^◌, ◌<◌, ◌⊎◌, List, [], ◌++◌, length, Option, None, Some, Result, Ok, Err}
use Rattle.wire_codec.specs.declared.field.Field.{Field}
use Rattle.wire_codec.specs.declared.wire_error.WireError.{WireError}
use Rattle.wire_codec.specs.Payload.{PayloadSeen, delimited}
use Rattle.wire_codec.specs.Fields.{FieldSeen, field_seen, IsField, Fields}
use Rattle.wire_codec.specs.Faults.{FieldFault}

-- the bytes that are left of a message, the place of the first of them, and the fault that was met
pub record ReaderSeen : Type 0 where
  pub rest : List ℕ
  pub place : ℕ
  pub failed : Option WireError

-- an answer without where its field lies in memory
abbrev pub answer_seen : Result (Option Field) WireError → Result (Option FieldSeen) WireError
answer_seen (Ok (Some f)) = Ok (Some (field_seen f))
answer_seen (Ok None) = Ok None
answer_seen (Err e) = Err e

-- the bytes that are left begin with this field, and reading goes on behind it
pub record TakesField (old : ReaderSeen) (f : FieldSeen) (new : ReaderSeen) : Type 0 where
  pub text : List ℕ
  pub is_field : IsField old.place text f
  pub rest : old.rest ≡ text ++ new.rest
  pub place : new.place ≡ old.place + length text
  pub going : old.failed ≡ None
  pub still_going : new.failed ≡ None

-- nothing is left
pub record IsAtEnd (old new : ReaderSeen) : Type 0 where
  pub nothing : old.rest ≡ []
  pub going : old.failed ≡ None
  pub same : new ≡ old

-- the bytes that are left begin with no field but with this fault, which is kept
pub record MeetsFault (old : ReaderSeen) (e : WireError) (new : ReaderSeen) : Type 0 where
  pub fault : FieldFault old.place old.rest e
  pub going : old.failed ≡ None
  pub kept : new ≡ record { rest = old.rest; place = old.place; failed = Some e }

-- the fault was met before
pub record FailsAgain (old : ReaderSeen) (e : WireError) (new : ReaderSeen) : Type 0 where
  pub met : old.failed ≡ Some e
  pub same : new ≡ old

-- the next answer
abbrev pub Next : ReaderSeen → Result (Option FieldSeen) WireError → ReaderSeen → Type 0
Next old (Ok (Some f)) new = TakesField old f new
Next old (Ok None) new = IsAtEnd old new
Next old (Err e) new = MeetsFault old e new ⊎ FailsAgain old e new

-- the length of a payload of wire type 2; a reader can be made over it
abbrev pub payload_length : PayloadSeen → ℕ
payload_length (delimited bytes) = length bytes
payload_length other = 0

abbrev pub PayloadFits : Result (Option FieldSeen) WireError → Type 0
PayloadFits (Ok (Some f)) = f.payload_place + payload_length f.payload < 2 ^ 64
PayloadFits (Ok None) = Unit {0}
PayloadFits (Err e) = Unit {0}

-- Of the message, whose first byte has the place, the reader gave these fields, and no fault yet.
pub record HasRead (at : ℕ) (message : List ℕ) (fields : List FieldSeen) (reader : ReaderSeen) : Type 0 where
  pub front : List ℕ
  pub parts : message ≡ front ++ reader.rest
  pub are_fields : Fields at front fields
  pub place : reader.place ≡ at + length front
  pub going : reader.failed ≡ None
