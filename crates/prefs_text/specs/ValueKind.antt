-- The seven kinds of values, and the word that names each.
use Rattle.std.specs.Prelude.{ℕ, List, codes}
use Rattle.prefs_model.specs.declared.pref_value.PrefValue.{PrefValue}
use Rattle.prefs_model.specs.declared.pref_value.PrefValue.TheVariants as value
use Rattle.prefs_text.specs.declared.value_kind.ValueKind.{ValueKind}
use Rattle.prefs_text.specs.declared.value_kind.ValueKind.TheVariants.{Bool, Int, Long, Float, Double, Text, Texts}

abbrev pub kind_name : ValueKind → List ℕ
kind_name Bool = codes "bool"
kind_name Int = codes "int"
kind_name Long = codes "long"
kind_name Float = codes "float"
kind_name Double = codes "double"
kind_name Text = codes "text"
kind_name Texts = codes "texts"

abbrev pub kind_of : PrefValue → ValueKind
kind_of (value.Bool b) = Bool
kind_of (value.Int number) = Int
kind_of (value.Long number) = Long
kind_of (value.Float bits) = Float
kind_of (value.Double bits) = Double
kind_of (value.Text text) = Text
kind_of (value.Texts texts) = Texts

-- one bare word can be a value of the kind
abbrev pub IsScalar : ValueKind → Type 0
IsScalar Text = ⊥
IsScalar Texts = ⊥
IsScalar _ = Unit {0}
