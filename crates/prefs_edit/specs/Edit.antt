-- Which steps are an edit, and why others are none.
use Rattle.std.specs.Prelude.{ℕ, ◌≡◌, ◌<◌, ◌≤◌, ◌-◌, ◌^◌, ◌⊎◌, min, List, length}
use Rattle.prefs_edit.specs.declared.edit_error.EditError.{EditError}
use Rattle.prefs_edit.specs.declared.edit_error.EditError.TheVariants.{EditTooLong, Count}
use Rattle.prefs_edit.specs.declared.edit_step.EditStep.{EditStep}
use Rattle.prefs_edit.specs.Weight.{edit_weight}

pub record HasCount (steps : List EditStep) : Type 0 where
  pub some : 1 ≤ length steps
  pub few : length steps ≤ 16

pub record IsEdit (steps : List EditStep) : Type 0 where
  pub count : HasCount steps
  pub weight : edit_weight steps ≤ 65536

-- each refusal, with what it tells
abbrev pub IsRefusalOf : List EditStep → EditError → Type 0
IsRefusalOf steps (Count count) = (count ≡ length steps) × ((length steps ≡ 0) ⊎ (16 < length steps))
IsRefusalOf steps (EditTooLong weight) = HasCount steps × (65536 < edit_weight steps) × (weight ≡ min (edit_weight steps) (2 ^ 64 - 1))

abbrev pub error_code : EditError → ℕ
error_code (EditTooLong weight) = 4
error_code (Count count) = 5

-- the fields of an edit: its steps, and their weight
pub record HoldsEdit (steps : List EditStep) (weight : ℕ) : Type 0 where
  pub edit : IsEdit steps
  pub weighed : weight ≡ edit_weight steps
