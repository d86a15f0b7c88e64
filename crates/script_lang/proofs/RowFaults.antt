-- The least rule that the words of a line break, and that they break none.
use Rattle.std.proofs.Common.{inr}
use Rattle.script_lang.specs.declared.parsing.draft.Draft.{Draft}
use Rattle.script_lang.specs.declared.parsing.line.Line.{Line}
use Rattle.script_lang.specs.declared.parsing.script_error.ScriptFault.{ScriptFault}
use Rattle.script_lang.specs.declared.parsing.script_error.ScriptFault.TheVariants.{UnknownWord, BadValue, UnknownName, NameTaken, TooManyNames, WrongPlace}
use Rattle.script_lang.specs.Faults.{RowBreaks, HasUnknownWord, HasBadValue, HasUnknownName, TakesName, IsOneTooMany, StandsWrong}
use Rattle.script_lang.specs.Reading.{RowSays, IsRowFault}
use Rattle.script_lang.specs.Rows.{Row}
use Rattle.script_lang.specs.Spelling.{Spells}
use Rattle.script_lang.proofs.LeastFault.{NoneBelow, rows_begin, passed, least_at}

module _ (draft : Draft) (row : Row) where
  pub unknown_word_first : HasUnknownWord row → IsRowFault draft row UnknownWord
  unknown_word_first unknown = inr (least_at (RowBreaks draft row) UnknownWord (rows_begin draft row) unknown)

  to_values : ¬ HasUnknownWord row → NoneBelow (RowBreaks draft row) 5
  to_values known = passed (RowBreaks draft row) UnknownWord (rows_begin draft row) known

  pub bad_value_first : ¬ HasUnknownWord row → HasBadValue row → IsRowFault draft row BadValue
  bad_value_first known bad = inr (least_at (RowBreaks draft row) BadValue (to_values known) bad)

  to_names : ¬ HasUnknownWord row → ¬ HasBadValue row → NoneBelow (RowBreaks draft row) 6
  to_names known good = passed (RowBreaks draft row) BadValue (to_values known) good

  pub unknown_name_first : ¬ HasUnknownWord row → ¬ HasBadValue row → HasUnknownName draft row → IsRowFault draft row UnknownName
  unknown_name_first known good unknown = inr (least_at (RowBreaks draft row) UnknownName (to_names known good) unknown)

  to_new_names : ¬ HasUnknownWord row → ¬ HasBadValue row → ¬ HasUnknownName draft row → NoneBelow (RowBreaks draft row) 7
  to_new_names known good declared = passed (RowBreaks draft row) UnknownName (to_names known good) declared

  pub name_taken_first : ¬ HasUnknownWord row → ¬ HasBadValue row → ¬ HasUnknownName draft row → TakesName draft row → IsRowFault draft row NameTaken
  name_taken_first known good declared taken = inr (least_at (RowBreaks draft row) NameTaken (to_new_names known good declared) taken)

  to_counts : ¬ HasUnknownWord row → ¬ HasBadValue row → ¬ HasUnknownName draft row → ¬ TakesName draft row → NoneBelow (RowBreaks draft row) 8
  to_counts known good declared free = passed (RowBreaks draft row) NameTaken (to_new_names known good declared) free

  pub too_many_first : ¬ HasUnknownWord row → ¬ HasBadValue row → ¬ HasUnknownName draft row → ¬ TakesName draft row → IsOneTooMany draft row → IsRowFault draft row TooManyNames
  too_many_first known good declared free many = inr (least_at (RowBreaks draft row) TooManyNames (to_counts known good declared free) many)

  to_places : ¬ HasUnknownWord row → ¬ HasBadValue row → ¬ HasUnknownName draft row → ¬ TakesName draft row → ¬ IsOneTooMany draft row → NoneBelow (RowBreaks draft row) 9
  to_places known good declared free few = passed (RowBreaks draft row) TooManyNames (to_counts known good declared free) few

  pub wrong_place_first : ¬ HasUnknownWord row → ¬ HasBadValue row → ¬ HasUnknownName draft row → ¬ TakesName draft row → ¬ IsOneTooMany draft row → StandsWrong draft row → IsRowFault draft row WrongPlace
  wrong_place_first known good declared free few wrong = inr (least_at (RowBreaks draft row) WrongPlace (to_places known good declared free few) wrong)

  kept_all : (fault : ScriptFault) → ¬ HasUnknownWord row → ¬ HasBadValue row → ¬ HasUnknownName draft row → ¬ TakesName draft row → ¬ IsOneTooMany draft row → ¬ StandsWrong draft row → ¬ RowBreaks draft row fault
  kept_all UnknownWord known good declared free few right = known
  kept_all BadValue known good declared free few right = good
  kept_all UnknownName known good declared free few right = declared
  kept_all NameTaken known good declared free few right = free
  kept_all TooManyNames known good declared free few right = few
  kept_all WrongPlace known good declared free few right = right
  kept_all _ known good declared free few right = λ none. none

  pub row_says : (said : Line) → Spells draft row said → ¬ HasUnknownWord row → ¬ HasBadValue row → ¬ HasUnknownName draft row → ¬ TakesName draft row → ¬ IsOneTooMany draft row → ¬ StandsWrong draft row → RowSays draft row said
  row_says said spelled known good declared free few right = record {
    spelled = spelled;
    keeps_rules = λ fault. kept_all fault known good declared free few right;
  }
