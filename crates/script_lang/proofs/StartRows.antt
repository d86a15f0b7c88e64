-- What the lines on the start say, and which of their rules are broken first.
use Rattle.std.proofs.Common.{ℕ, ◌≡◌, List, [], ◌∷◌, refl}
use Rattle.folder_disk.specs.declared.main_read.MainRead.{MainRead}
use Rattle.script_lang.specs.declared.parsing.draft.Draft.{Draft}
use Rattle.script_lang.specs.declared.parsing.line.Line.TheVariants as said
use Rattle.script_lang.specs.declared.parsing.line_word.LineWord.TheVariants.{File, History}
use Rattle.script_lang.specs.declared.parsing.script_error.ScriptFault.TheVariants.{WrongPlace}
use Rattle.script_lang.specs.Faults.{BarsFile, BarsHistory}
use Rattle.script_lang.specs.Reading.{RowSays, IsRowFault}
use Rattle.script_lang.specs.Rows.{keyword, IsFileWord, IsFileRow, IsHistoryRow}
use Rattle.script_lang.proofs.RowFaults.{wrong_place_first, row_says}

pub file_row : {behind : List (List ℕ)} {word : List ℕ} {main : MainRead} → behind ≡ word ∷ [] → IsFileWord word main → IsFileRow behind main
file_row {word = word} row is_file = record { word = word; row = row; is_file = is_file }

module _ (draft : Draft) (behind : List (List ℕ)) where
  pub history_barred : (entries : ℕ) → IsHistoryRow behind entries → BarsHistory draft → IsRowFault draft (keyword History behind) WrongPlace
  history_barred entries row barred = wrong_place_first draft (keyword History behind) (λ h. h) (λ bad. bad entries row) (λ h. h) (λ h. h) (λ h. h) barred

  pub history_said : (entries : ℕ) → IsHistoryRow behind entries → ¬ BarsHistory draft → RowSays draft (keyword History behind) (said.History entries)
  history_said entries row free = row_says draft (keyword History behind) (said.History entries) (record { behind = behind; is = refl; follow = row })
      (λ h. h) (λ bad. bad entries row) (λ h. h) (λ h. h) (λ h. h) free

  pub file_barred : (main : MainRead) → IsFileRow behind main → BarsFile draft → IsRowFault draft (keyword File behind) WrongPlace
  file_barred main row barred = wrong_place_first draft (keyword File behind) (λ h. h) (λ bad. bad main row) (λ h. h) (λ h. h) (λ h. h) barred

  pub file_said : (main : MainRead) → IsFileRow behind main → ¬ BarsFile draft → RowSays draft (keyword File behind) (said.File main)
  file_said main row free = row_says draft (keyword File behind) (said.File main) (record { behind = behind; is = refl; follow = row })
      (λ h. h) (λ bad. bad main row) (λ h. h) (λ h. h) (λ h. h) free
