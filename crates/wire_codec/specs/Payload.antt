-- What a field holds, and how it is spelled (Protocol Buffers encoding guide, "Message Structure").
use Rattle.std.specs.Prelude.{◌≡◌, ℕ, List, [], length}
use Rattle.std.specs.Int.{w32, w64, from_le_bytes}
use Rattle.wire_codec.specs.declared.payload.Payload.{Payload}
use Rattle.wire_codec.specs.declared.payload.Payload.TheVariants.{Varint, Eight, Bytes, Group, Four}
use Rattle.wire_codec.specs.Varint.{IsVarint}

-- a payload without where it lies in memory
pub data PayloadSeen : Type 0 where
  varint : ℕ → PayloadSeen
  eight : ℕ → PayloadSeen
  delimited : List ℕ → PayloadSeen
  group : PayloadSeen
  four : ℕ → PayloadSeen

abbrev pub payload_seen : Payload → PayloadSeen
payload_seen (Varint n) = varint n
payload_seen (Eight n) = eight n
payload_seen (Bytes bytes) = delimited bytes.now
payload_seen Group = group
payload_seen (Four n) = four n

-- the wire type
abbrev pub wire_code : PayloadSeen → ℕ
wire_code (varint n) = 0
wire_code (eight n) = 1
wire_code (delimited bytes) = 2
wire_code group = 3
wire_code (four n) = 5

-- The text is the payload, and lead is what stands between it and the tag: of wire type 2 the length.
-- A group is no plain payload.
abbrev pub IsPlain : List ℕ → List ℕ → PayloadSeen → Type 0
IsPlain lead text (varint n) = (lead ≡ []) × IsVarint text n
IsPlain lead text (eight n) = (lead ≡ []) × (length text ≡ 8) × (n ≡ from_le_bytes w64 text)
IsPlain lead text (delimited bytes) = IsVarint lead (length bytes) × (text ≡ bytes)
IsPlain lead text group = ⊥
IsPlain lead text (four n) = (lead ≡ []) × (length text ≡ 4) × (n ≡ from_le_bytes w32 text)
