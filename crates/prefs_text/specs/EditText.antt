-- The one text of an edit.
use Rattle.std.specs.Prelude.{ℕ, List, [], ◌∷◌, ◌++◌, codes}
use Rattle.std.specs.Fmt.{signed_decimal}
use Rattle.std.specs.List.{join_by}
use Rattle.json.specs.Print.{quoted}
use Rattle.prefs_edit.specs.declared.edit_step.EditStep.{EditStep}
use Rattle.prefs_edit.specs.declared.edit_step.EditStep.TheVariants.{Set, Remove, Clear, AddInt, AddLong, Toggle, InsertText, RemoveText, Require}
use Rattle.prefs_text.specs.ValueText.{value_text}

-- a word, a space, and the quoted key
abbrev pub word_and_key : List ℕ → List ℕ → List ℕ
word_and_key word key = word ++ codes " " ++ quoted key

-- what the step does, its key, and what else it holds, apart by spaces
unfoldable pub step_text : EditStep → List ℕ
step_text (Set key value) = word_and_key (codes "set") key ++ codes " " ++ value_text value
step_text (Remove key) = word_and_key (codes "remove") key
step_text Clear = codes "clear"
step_text (AddInt key amount) = word_and_key (codes "addint") key ++ codes " " ++ signed_decimal amount
step_text (AddLong key amount) = word_and_key (codes "addlong") key ++ codes " " ++ signed_decimal amount
step_text (Toggle key) = word_and_key (codes "toggle") key
step_text (InsertText key text) = word_and_key (codes "insert") key ++ codes " " ++ quoted text
step_text (RemoveText key text) = word_and_key (codes "erase") key ++ codes " " ++ quoted text
step_text (Require key value) = word_and_key (codes "require") key ++ codes " " ++ value_text value

-- one step stands alone; several stand behind a word, joined by semicolons
abbrev pub edit_text : List EditStep → List ℕ
edit_text (step ∷ []) = step_text step
edit_text steps = codes "many " ++ join_by step_text (codes " ; ") steps
