-- Worked rows of the definition.
use Rattle.std.proofs.Common.{◌≡◌, [], ◌∷◌, refl}
use Rattle.std.specs.Prelude.{pos, negsuc, codes}
use Rattle.prefs_model.specs.declared.pref_value.PrefValue.TheVariants.{Int}
use Rattle.wire_codec.specs.Text.{base_128}
use Rattle.prefs_proto.specs.ValueText.{value_text}
use Rattle.prefs_proto.specs.FieldText.{field}
use Rattle.prefs_proto.specs.Encoded.{entry_text, pair_text, encoded}

-- volume is 5
volume : encoded (record { key = codes "volume"; value = Int (pos 5) } ∷ []) ≡ 0x0a ∷ 0x0c ∷ 0x0a ∷ 0x06 ∷ 0x76 ∷ 0x6f ∷ 0x6c ∷ 0x75 ∷ 0x6d ∷ 0x65 ∷ 0x12 ∷ 0x02 ∷ 0x18 ∷ 0x05 ∷ []
unfolding encoded pair_text entry_text field value_text base_128
volume = refl

-- m is -1
minus_one : encoded (record { key = codes "m"; value = Int (negsuc 0) } ∷ []) ≡ 0x0a ∷ 0x10 ∷ 0x0a ∷ 0x01 ∷ 0x6d ∷ 0x12 ∷ 0x0b ∷ 0x18 ∷ 0xff ∷ 0xff ∷ 0xff ∷ 0xff ∷ 0xff ∷ 0xff ∷ 0xff ∷ 0xff ∷ 0xff ∷ 0x01 ∷ []
unfolding encoded pair_text entry_text field value_text base_128
minus_one = refl

-- n is 2147483647, after a is 1
greatest : encoded (record { key = codes "a"; value = Int (pos 1) } ∷ record { key = codes "n"; value = Int (pos 2147483647) } ∷ []) ≡ 0x0a ∷ 0x07 ∷ 0x0a ∷ 0x01 ∷ 0x61 ∷ 0x12 ∷ 0x02 ∷ 0x18 ∷ 0x01 ∷ 0x0a ∷ 0x0b ∷ 0x0a ∷ 0x01 ∷ 0x6e ∷ 0x12 ∷ 0x06 ∷ 0x18 ∷ 0xff ∷ 0xff ∷ 0xff ∷ 0xff ∷ 0x07 ∷ []
unfolding encoded pair_text entry_text field value_text base_128
greatest = refl
