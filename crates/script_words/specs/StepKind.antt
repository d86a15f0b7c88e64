-- The kinds of steps, and the word that names each.
use Rattle.std.specs.Prelude.{ℕ, List, codes}
use Rattle.prefs_edit.specs.declared.edit_step.EditStep.{EditStep}
use Rattle.prefs_edit.specs.declared.edit_step.EditStep.TheVariants as step
use Rattle.script_words.specs.declared.step_kind.StepKind.{StepKind}
use Rattle.script_words.specs.declared.step_kind.StepKind.TheVariants.{Set, Remove, Clear, AddInt, AddLong, Toggle, InsertText, RemoveText, Require}

abbrev pub step_word : StepKind → List ℕ
step_word Set = codes "set"
step_word Remove = codes "remove"
step_word Clear = codes "clear"
step_word AddInt = codes "addint"
step_word AddLong = codes "addlong"
step_word Toggle = codes "toggle"
step_word InsertText = codes "insert"
step_word RemoveText = codes "erase"
step_word Require = codes "require"

abbrev pub kind_of_step : EditStep → StepKind
kind_of_step (step.Set key value) = Set
kind_of_step (step.Remove key) = Remove
kind_of_step step.Clear = Clear
kind_of_step (step.AddInt key amount) = AddInt
kind_of_step (step.AddLong key amount) = AddLong
kind_of_step (step.Toggle key) = Toggle
kind_of_step (step.InsertText key text) = InsertText
kind_of_step (step.RemoveText key text) = RemoveText
kind_of_step (step.Require key value) = Require
