-- The text of an edit, read again.
use Rattle.std.specs.Prelude.{ℕ, List}
use Rattle.std.specs.Int.{w32, w64}
use Rattle.std.specs.Int.RustNames.{FitsSigned}
use Rattle.prefs_edit.specs.Laws.{IsStep}
use Rattle.prefs_edit.specs.declared.edit_step.EditStep.{EditStep}
use Rattle.prefs_edit.specs.declared.edit_step.EditStep.TheVariants.{AddInt, AddLong}
use Rattle.prefs_text.specs.EditText.{edit_text}
use Rattle.script_words.specs.EditWords.{AreEditWords}
use Rattle.script_words.specs.Words.{AreWords}

-- an amount is a number of its kind
abbrev pub AmountFits : EditStep → Type 0
AmountFits (AddInt key amount) = FitsSigned w32 amount
AmountFits (AddLong key amount) = FitsSigned w64 amount
AmountFits _ = Unit {0}

-- what holds of each step of an edit by its type
pub record IsTyped (step : EditStep) : Type 0 where
  pub is_step : IsStep step
  pub amount : AmountFits step

-- the words of the edit's text are the edit
pub record ReadsBack (edit : List EditStep) : Type 0 where
  pub words : List (List ℕ)
  pub are_words : AreWords words (edit_text edit)
  pub are_edit : AreEditWords words edit
