-- Whether two values are equal in kind and content, as a test that computes.
use Rattle.std.specs.Prelude.{◌==◌, Option, Some, None, Bool, false}
use Rattle.std.specs.Bool.{beq}
use Rattle.std.specs.Cmp.Lexicographic.{pointwise}
use Rattle.std.specs.Ordering.{int_eq}
use Rattle.std.specs.Str.{bytes_eq}
use Rattle.prefs_model.specs.declared.pref_value.PrefValue.{PrefValue}
use Rattle.prefs_model.specs.declared.pref_value.PrefValue.TheVariants.{Bool as Truth, Int, Long, Float, Double, Text, Texts}

abbrev pub same_value : PrefValue → PrefValue → Bool
same_value (Truth a) (Truth b) = beq a b
same_value (Int a) (Int b) = int_eq a b
same_value (Long a) (Long b) = int_eq a b
same_value (Float a) (Float b) = a == b
same_value (Double a) (Double b) = a == b
same_value (Text a) (Text b) = bytes_eq a b
same_value (Texts a) (Texts b) = pointwise bytes_eq a b
same_value _ _ = false

-- a missing value is no value
abbrev pub is_value : Option PrefValue → PrefValue → Bool
is_value None value = false
is_value (Some found) value = same_value found value
