-- A tag: a varint of the field's number and, in the low three bits, its wire type (Protocol Buffers
-- encoding guide, "Message Structure").
use Rattle.std.specs.Prelude.{ℕ, ◌+◌, ◌*◌, ◌^◌, ◌<◌, ◌≤◌, List}
use Rattle.wire_codec.specs.declared.wire_type.PlainType.{PlainType}
use Rattle.wire_codec.specs.declared.wire_type.PlainType.TheVariants.{Varint, Eight, Bytes, Four}
use Rattle.wire_codec.specs.declared.wire_type.WireType.{WireType}
use Rattle.wire_codec.specs.declared.wire_type.WireType.TheVariants.{Plain, StartGroup, EndGroup}
use Rattle.wire_codec.specs.Varint.{IsVarint}

pub record IsTag (text : List ℕ) (number code : ℕ) : Type 0 where
  pub spelt : IsVarint text (number * 8 + code)
  pub code_fits : code < 8
  pub numbered : 1 ≤ number
  pub number_fits : number < 2 ^ 29

abbrev pub plain_code : PlainType → ℕ
plain_code Varint = 0
plain_code Eight = 1
plain_code Bytes = 2
plain_code Four = 5

abbrev pub code_of : WireType → ℕ
code_of (Plain plain) = plain_code plain
code_of StartGroup = 3
code_of EndGroup = 4
