-- The one text of a map: its pairs in order, joined by a comma and a space, between braces.
use Rattle.std.specs.Prelude.{ℕ, List, ◌++◌, codes}
use Rattle.std.specs.List.{join_by}
use Rattle.json.specs.Print.{quoted}
use Rattle.prefs_model.specs.declared.pref_pair.PrefPair.{PrefPair}
use Rattle.prefs_text.specs.ValueText.{value_text}

-- the key as a JSON string, a space, and the value's text
abbrev pub pair_text : PrefPair → List ℕ
pair_text pair = quoted pair.key ++ codes " " ++ value_text pair.value

abbrev pub map_text : List PrefPair → List ℕ
map_text pairs = codes "{" ++ join_by pair_text (codes ", ") pairs ++ codes "}"
