use Rattle.std.specs.Prelude.{◌<◌, ◌^◌}
use Rattle.std.specs.Int.{w32, w64}
use Rattle.std.specs.Int.RustNames.{FitsSigned}
use Rattle.std.specs.Str.{IsUtf8}
use Rattle.prefs_model.specs.declared.pref_value.PrefValue.{PrefValue}
use Rattle.prefs_model.specs.declared.pref_value.PrefValue.TheVariants.{Bool, Int, Long, Float, Double, Text, Texts}
use Rattle.prefs_model.specs.Texts.{IsTextSet}

-- a number fits its type, a text is UTF-8, a set is one
abbrev pub IsValue : PrefValue → Type 0
IsValue (Bool b) = Unit {0}
IsValue (Int number) = FitsSigned w32 number
IsValue (Long number) = FitsSigned w64 number
IsValue (Float bits) = bits < 2 ^ 32
IsValue (Double bits) = bits < 2 ^ 64
IsValue (Text text) = IsUtf8 text
IsValue (Texts texts) = IsTextSet texts
