-- Which words are an edit, and why others are none.
use Rattle.std.specs.Prelude.{ℕ, ◌≡◌, ◌≤◌, ◌⊎◌, List, [], ◌∷◌, Any, codes, length}
use Rattle.std.specs.List.{AllZip}
use Rattle.prefs_edit.specs.Edit.{IsEdit}
use Rattle.prefs_edit.specs.declared.edit_step.EditStep.{EditStep}
use Rattle.script_words.specs.Faults.{IsFault}
use Rattle.script_words.specs.Parts.{parts_of}
use Rattle.script_words.specs.StepWords.{AreStepWords}
use Rattle.script_words.specs.Unknown.{HasUnknownWord}
use Rattle.script_words.specs.declared.words_error.WordsError.{WordsError}

-- the words are the steps, at least two, with a word `;` between each two
pub record AreSeveral (words : List (List ℕ)) (steps : List EditStep) : Type 0 where
  pub several : 2 ≤ length steps
  pub each : AllZip AreStepWords (parts_of words) steps

-- the words are `many` and several steps
pub record AreManySteps (words : List (List ℕ)) (steps : List EditStep) : Type 0 where
  pub behind : List (List ℕ)
  pub name : words ≡ codes "many" ∷ behind
  pub follow : AreSeveral behind steps

-- the words are one step
pub record IsOnlyStep (words : List (List ℕ)) (steps : List EditStep) : Type 0 where
  pub step : EditStep
  pub alone : steps ≡ step ∷ []
  pub is_step : AreStepWords words step

-- the words are these steps
abbrev pub SpellSteps : List (List ℕ) → List EditStep → Type 0
SpellSteps words steps = IsOnlyStep words steps ⊎ AreManySteps words steps

-- the words are this edit: its steps are at most 16, and weigh at most 65,536
pub record AreEditWords (words : List (List ℕ)) (edit : List EditStep) : Type 0 where
  pub spelled : SpellSteps words edit
  pub is_edit : IsEdit edit

-- one of the parts between words `;` has an unknown word
abbrev pub SomeHasUnknownWord : List (List ℕ) → Type 0
SomeHasUnknownWord words = Any HasUnknownWord (parts_of words)

-- of `many` the same holds behind it
pub record HasUnknownPart (words : List (List ℕ)) : Type 0 where
  pub behind : List (List ℕ)
  pub name : words ≡ codes "many" ∷ behind
  pub unknown : SomeHasUnknownWord behind

abbrev pub HasUnknown : List (List ℕ) → Type 0
HasUnknown words = HasUnknownWord words ⊎ HasUnknownPart words

-- each fault, with its cause: an unknown word stands before all others
abbrev pub IsEditFault : List (List ℕ) → WordsError → Type 0
IsEditFault words = IsFault (HasUnknown words) ((edit : List EditStep) → ¬ AreEditWords words edit)
