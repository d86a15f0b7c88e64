-- The rules are gone through from the least number on: where none below is broken and this one is, it is the least.
use Rattle.std.proofs.Common.{◌≡◌, ◌+◌, ◌<◌, ◌≤◌, ◌==◌, ◌⊎◌, ℕ, cond, ⊎_elim, ap, sym, refl, subst, ◌∙◌, arith, lit≤}
use Rattle.std.proofs.lemmas.Bool.{cases_lt}
use Rattle.script_lang.specs.declared.parsing.draft.Draft.{Draft}
use Rattle.script_lang.specs.declared.parsing.script_error.ScriptFault.{ScriptFault}
use Rattle.script_lang.specs.declared.parsing.script_error.ScriptFault.TheVariants.{NotUtf8, LineTooLong, TooManyLines, UnknownWord, BadValue, UnknownName, NameTaken, TooManyNames, WrongPlace, NoMemory}
use Rattle.script_lang.specs.Faults.{IsLeast, RowBreaks, fault_number}
use Rattle.script_lang.specs.Rows.{Row}

-- no rule with a number below this one is broken
pub record NoneBelow (broken : ScriptFault → Type 0) (number : ℕ) : Type 0 where
  pub none : (other : ScriptFault) → fault_number other < number → ¬ broken other

fault_at : ℕ → ScriptFault
fault_at number =
    cond (number == 1) NotUtf8 (cond (number == 2) LineTooLong (cond (number == 3) TooManyLines (cond (number == 4) UnknownWord (cond (number == 5) BadValue
    (cond (number == 6) UnknownName (cond (number == 7) NameTaken (cond (number == 8) TooManyNames (cond (number == 9) WrongPlace NoMemory))))))))

fault_at-number : (fault : ScriptFault) → fault_at (fault_number fault) ≡ fault
unfolding fault_at
fault_at-number NotUtf8 = refl
fault_at-number LineTooLong = refl
fault_at-number TooManyLines = refl
fault_at-number UnknownWord = refl
fault_at-number BadValue = refl
fault_at-number UnknownName = refl
fault_at-number NameTaken = refl
fault_at-number TooManyNames = refl
fault_at-number WrongPlace = refl
fault_at-number NoMemory = refl

pub one_fault_of_number : (a b : ScriptFault) → fault_number a ≡ fault_number b → a ≡ b
one_fault_of_number a b e = sym (fault_at-number a) ∙ ap fault_at e ∙ fault_at-number b

pub passed : (broken : ScriptFault → Type 0) (fault : ScriptFault) → NoneBelow broken (fault_number fault) → ¬ broken fault → NoneBelow broken (fault_number fault + 1)
passed broken fault below kept = record {
  none = λ other less is_broken.
      let cases : (fault_number other < fault_number fault) ⊎ (fault_number fault ≤ fault_number other) = cases_lt (fault_number other) (fault_number fault) in
      ⊎_elim (λ lower. below.none other lower is_broken)
      (λ same. kept (subst broken (one_fault_of_number other fault (omega arith)) is_broken)) cases;
}

pub least_at : (broken : ScriptFault → Type 0) (fault : ScriptFault) → NoneBelow broken (fault_number fault) → broken fault → IsLeast broken fault
least_at broken fault below is_broken = record {
  breaks = is_broken;
  before_others = λ other other_broken.
      let cases : (fault_number other < fault_number fault) ⊎ (fault_number fault ≤ fault_number other) = cases_lt (fault_number other) (fault_number fault) in
      ⊎_elim (λ lower. absurd (below.none other lower other_broken)) (λ least. least) cases;
}

numbered : (fault : ScriptFault) → 1 ≤ fault_number fault
numbered NotUtf8 = lit≤ tt
numbered LineTooLong = lit≤ tt
numbered TooManyLines = lit≤ tt
numbered UnknownWord = lit≤ tt
numbered BadValue = lit≤ tt
numbered UnknownName = lit≤ tt
numbered NameTaken = lit≤ tt
numbered TooManyNames = lit≤ tt
numbered WrongPlace = lit≤ tt
numbered NoMemory = lit≤ tt

pub none_below_one : (broken : ScriptFault → Type 0) → NoneBelow broken 1
none_below_one broken = record { none = λ other less _. let least : 1 ≤ fault_number other = numbered other in omega arith }

-- the rules of words begin with number 4
pub rows_begin : (draft : Draft) (row : Row) → NoneBelow (RowBreaks draft row) 4
rows_begin draft row =
    let broken : ScriptFault → Type 0 = RowBreaks draft row in
    passed broken TooManyLines (passed broken LineTooLong (passed broken NotUtf8 (none_below_one broken) (λ h. h)) (λ h. h)) (λ h. h)
