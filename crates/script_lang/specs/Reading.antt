-- What is read of one line.
use Rattle.std.specs.Prelude.{ℕ, ◌≡◌, ◌≤◌, ◌⊎◌, List, length, Result, Ok, Err, MatchResult}
use Rattle.std.specs.Borrow.{Bor}
use Rattle.std.specs.Str.{IsUtf8}
use Rattle.script_lang.specs.declared.parsing.draft.Draft.{Draft}
use Rattle.script_lang.specs.declared.parsing.line.Line.{Line}
use Rattle.script_lang.specs.declared.parsing.script_error.ScriptError.{ScriptError}
use Rattle.script_lang.specs.declared.parsing.script_error.ScriptFault.{ScriptFault}
use Rattle.script_lang.specs.declared.parsing.script_error.ScriptFault.TheVariants.{NoMemory}
use Rattle.script_lang.specs.Faults.{Breaks, IsLeast, RowBreaks}
use Rattle.script_lang.specs.Growth.{draft_with}
use Rattle.script_lang.specs.Meaning.{Says}
use Rattle.script_lang.specs.Rows.{Row, IsRow}
use Rattle.script_lang.specs.Spelling.{Spells}

-- of a line's words
pub record RowSays (draft : Draft) (row : Row) (said : Line) : Type 0 where
  pub spelled : Spells draft row said
  pub keeps_rules : (fault : ScriptFault) → ¬ RowBreaks draft row fault

-- the least of the rules that a line's words break, or want of memory
abbrev pub IsRowFault : Draft → Row → ScriptFault → Type 0
IsRowFault draft row fault = (fault ≡ NoMemory) ⊎ IsLeast (RowBreaks draft row) fault

-- what the reading of a line's words answers
abbrev pub ReadsRow : Draft → Row → Result Line ScriptFault → Type 0
ReadsRow draft row read = MatchResult read (RowSays draft row) (IsRowFault draft row)

-- the same of the line
abbrev pub IsLineFault : Draft → ℕ → List ℕ → ScriptFault → Type 0
IsLineFault draft number line fault = (fault ≡ NoMemory) ⊎ IsLeast (Breaks draft number line) fault

-- what the reading of a line answers
abbrev pub ReadsLine : Draft → ℕ → List ℕ → Result Line ScriptFault → Type 0
ReadsLine draft number line read = MatchResult read (Says draft number line) (IsLineFault draft number line)

-- what the reading of words answers: the words are a row, and it answers what its row says
pub record ReadsWords (draft : Draft) (words : List (List ℕ)) (read : Result Line ScriptFault) : Type 0 where
  pub row : Row
  pub is : IsRow words row
  pub reads : ReadsRow draft row read

-- the rules that are tested before a line's words
abbrev pub PassesTests : ℕ → List ℕ → Type 0
PassesTests number line = IsUtf8 line × ((length line ≤ 4096) × (number ≤ 100000))

-- the line as it is, or the least of these rules that it breaks
abbrev pub TestsLine : ℕ → List ℕ → Result (Bor (List ℕ)) ScriptFault → Type 0
TestsLine number line (Ok text) = (text.now ≡ line) × PassesTests number line
TestsLine number line (Err fault) = (draft : Draft) → IsLeast (Breaks draft number line) fault

-- the line says something, and the draft has it
pub record GoesOn (old : Draft) (number : ℕ) (line : List ℕ) (new : Draft) : Type 0 where
  pub said : Line
  pub says : Says old number line said
  pub grown : new ≡ draft_with old said

-- the line is faulty, or memory is wanting
pub record StopsAt (draft : Draft) (number : ℕ) (line : List ℕ) (error : ScriptError) : Type 0 where
  pub line_number : error.line ≡ number
  pub why : IsLineFault draft number line error.fault
