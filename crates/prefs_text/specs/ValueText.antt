-- The one text of a value: its kind's name, a space, and what it is.
use Rattle.std.specs.Prelude.{ℕ, List, ◌++◌, Bool, codes, if◌then◌else◌}
use Rattle.std.specs.Fmt.{signed_decimal}
use Rattle.std.specs.Int.{w32, w64, to_be_bytes}
use Rattle.std.specs.List.{join_by}
use Rattle.hex.specs.Hex.{encode_lower}
use Rattle.json.specs.Print.{quoted}
use Rattle.prefs_model.specs.declared.pref_value.PrefValue.{PrefValue}
use Rattle.prefs_model.specs.declared.pref_value.PrefValue.TheVariants.{Bool as Truth, Int, Long, Float, Double, Text, Texts}
use Rattle.prefs_text.specs.ValueKind.{kind_name, kind_of}

abbrev pub truth_text : Bool → List ℕ
truth_text b = if b then codes "true" else codes "false"

-- 8 digits in lower-case hexadecimal, the highest first
abbrev pub float_text : ℕ → List ℕ
float_text bits = encode_lower (to_be_bytes w32 bits)

-- 16 digits in lower-case hexadecimal, the highest first
abbrev pub double_text : ℕ → List ℕ
double_text bits = encode_lower (to_be_bytes w64 bits)

-- the texts as JSON strings, joined by commas, between brackets
abbrev pub list_text : List (List ℕ) → List ℕ
list_text texts = codes "[" ++ join_by quoted (codes ",") texts ++ codes "]"

-- what stands behind the kind's name and the space
abbrev pub plain_text : PrefValue → List ℕ
plain_text (Truth b) = truth_text b
plain_text (Int number) = signed_decimal number
plain_text (Long number) = signed_decimal number
plain_text (Float bits) = float_text bits
plain_text (Double bits) = double_text bits
plain_text (Text text) = quoted text
plain_text (Texts texts) = list_text texts

abbrev pub value_text : PrefValue → List ℕ
value_text value = kind_name (kind_of value) ++ codes " " ++ plain_text value
