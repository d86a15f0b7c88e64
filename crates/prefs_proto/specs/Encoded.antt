-- The one text of a map: the message `PreferenceMap` of preferences.proto, a `map<string, Value>` in field 1.
-- (Protocol Buffers, "Encoding", sections "Length-Delimited Records" and "Maps".)
use Rattle.std.specs.Prelude.{ℕ, List, ◌++◌}
use Rattle.std.specs.List.{flat_map}
use Rattle.prefs_model.specs.declared.pref_pair.PrefPair.{PrefPair}
use Rattle.prefs_proto.specs.FieldText.{field}
use Rattle.prefs_proto.specs.ValueText.{value_text}

-- an entry: the key is field 1, the value field 2
unfoldable pub entry_text : PrefPair → List ℕ
entry_text pair = field 0x0a pair.key ++ field 0x12 (value_text pair.value)

unfoldable pub pair_text : PrefPair → List ℕ
pair_text pair = field 0x0a (entry_text pair)

-- the entries in the order of their keys
unfoldable pub encoded : List PrefPair → List ℕ
encoded pairs = flat_map pair_text pairs
