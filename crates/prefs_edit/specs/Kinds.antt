-- What a key has, read as one kind of value. A missing key counts as that kind's empty value; another kind gives none.
use Rattle.std.specs.Prelude.{ℕ, ℤ, pos, List, [], Option, Some, None, Bool, false}
use Rattle.prefs_model.specs.declared.pref_value.PrefValue.{PrefValue}
use Rattle.prefs_model.specs.declared.pref_value.PrefValue.TheVariants.{Bool as Truth, Int, Long, Texts}

abbrev pub bool_of : Option PrefValue → Option Bool
bool_of None = Some false
bool_of (Some (Truth b)) = Some b
bool_of (Some _) = None

abbrev pub int_of : Option PrefValue → Option ℤ
int_of None = Some (pos 0)
int_of (Some (Int number)) = Some number
int_of (Some _) = None

abbrev pub long_of : Option PrefValue → Option ℤ
long_of None = Some (pos 0)
long_of (Some (Long number)) = Some number
long_of (Some _) = None

abbrev pub texts_of : Option PrefValue → Option (List (List ℕ))
texts_of None = Some []
texts_of (Some (Texts texts)) = Some texts
texts_of (Some _) = None
