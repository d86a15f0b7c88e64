-- What an edit weighs.
use Rattle.std.specs.Prelude.{ℕ, ◌+◌, List, length, sum_by}
use Rattle.prefs_model.specs.declared.pref_value.PrefValue.{PrefValue}
use Rattle.prefs_model.specs.declared.pref_value.PrefValue.TheVariants.{Text, Texts}
use Rattle.prefs_edit.specs.declared.edit_step.EditStep.{EditStep}
use Rattle.prefs_edit.specs.declared.edit_step.EditStep.TheVariants.{Set, Remove, Clear, AddInt, AddLong, Toggle, InsertText, RemoveText, Require}

-- a text weighs its bytes, a set 4 and the bytes of each text, any other value 8
abbrev pub value_weight : PrefValue → ℕ
value_weight (Text text) = length text
value_weight (Texts texts) = 4 + sum_by length texts
value_weight _ = 8

-- a step weighs 16, its key's bytes, and what else it holds
unfoldable pub step_weight : EditStep → ℕ
step_weight (Set key value) = 16 + length key + value_weight value
step_weight (Remove key) = 16 + length key
step_weight Clear = 16
step_weight (AddInt key amount) = 16 + length key + 8
step_weight (AddLong key amount) = 16 + length key + 8
step_weight (Toggle key) = 16 + length key
step_weight (InsertText key text) = 16 + length key + length text
step_weight (RemoveText key text) = 16 + length key + length text
step_weight (Require key value) = 16 + length key + value_weight value

abbrev pub edit_weight : List EditStep → ℕ
edit_weight steps = sum_by step_weight steps
