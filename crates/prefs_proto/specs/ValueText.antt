-- The message `Value` of preferences.proto: a tag byte and the member's payload.
use Rattle.std.specs.Prelude.{ℕ, List, [], ◌∷◌, if◌then◌else◌}
use Rattle.std.specs.Int.{w32, w64, cast_unsigned, to_le_bytes}
use Rattle.std.specs.List.{flat_map}
use Rattle.prefs_model.specs.declared.pref_value.PrefValue.{PrefValue}
use Rattle.prefs_model.specs.declared.pref_value.PrefValue.TheVariants.{Bool, Int, Long, Float, Double, Text, Texts}
use Rattle.wire_codec.specs.Text.{varint_text}
use Rattle.prefs_proto.specs.FieldText.{field}

-- the message `StringSet`: the texts, each as field 1
unfoldable pub set_text : List (List ℕ) → List ℕ
set_text texts = flat_map (field 0x0a) texts

-- A signed number is the varint of its 64 bits in two's complement. The bits of a number of floating point
-- stand with the least byte first.
unfoldable pub value_text : PrefValue → List ℕ
value_text (Bool b) = 0x08 ∷ (if b then 1 else 0) ∷ []
value_text (Int number) = 0x18 ∷ varint_text (cast_unsigned w64 number)
value_text (Long number) = 0x20 ∷ varint_text (cast_unsigned w64 number)
value_text (Float bits) = 0x15 ∷ to_le_bytes w32 bits
value_text (Double bits) = 0x39 ∷ to_le_bytes w64 bits
value_text (Text text) = field 0x2a text
value_text (Texts texts) = field 0x32 (set_text texts)
