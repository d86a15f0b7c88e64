-- From a line's words to the line.
use Rattle.std.proofs.Common.{ℕ, ◌≡◌, ◌≤◌, List, [], ◌∷◌, ◌++◌, length, Bor, Result, Ok, Err, subst, inl, inr, ⊎_elim, arith}
use Rattle.script_words.specs.Words.{AreWords, texts_at}
use Rattle.script_lang.specs.declared.parsing.draft.Draft.{Draft}
use Rattle.script_lang.specs.declared.parsing.line.Line.{Line}
use Rattle.script_lang.specs.declared.parsing.line.Line.TheVariants.{Nothing}
use Rattle.script_lang.specs.declared.parsing.script_error.ScriptFault.{ScriptFault}
use Rattle.script_lang.specs.declared.parsing.script_error.ScriptFault.TheVariants.{NotUtf8, LineTooLong, TooManyLines, UnknownWord, BadValue, UnknownName, NameTaken, TooManyNames, WrongPlace, NoMemory}
use Rattle.script_lang.specs.Faults.{Breaks, IsLeast, RowBreaks}
use Rattle.script_lang.specs.Meaning.{Says}
use Rattle.script_lang.specs.Reading.{PassesTests, ReadsLine, ReadsRow, ReadsWords}
use Rattle.script_lang.specs.Rows.{Row, HasRow, IsSkipped}
use Rattle.script_lang.specs.Spelling.{LineSpells, Spells}
use Rattle.script_lang.proofs.OneRow.{one_row}

module _ (draft : Draft) (number : ℕ) (line : List ℕ) (tested : PassesTests number line) where
  -- what a skipped line breaks
  skipped_keeps : IsSkipped line → (fault : ScriptFault) → ¬ Breaks draft number line fault
  skipped_keeps skipped NotUtf8 = λ not_text. not_text tested.0
  skipped_keeps skipped LineTooLong = λ long. omega (arith, tested.1.0)
  skipped_keeps skipped TooManyLines = λ many. omega (arith, tested.1.1)
  skipped_keeps skipped _ = λ broken. broken.read skipped

  pub skipped_says : IsSkipped line → Says draft number line Nothing
  skipped_says skipped = record { spelled = skipped; keeps_rules = skipped_keeps skipped }

  module _ (read : ¬ IsSkipped line) (row : Row) (has : HasRow line row) where
    -- the line breaks what its words break
    row_breaks : (fault : ScriptFault) → Breaks draft number line fault → RowBreaks draft row fault
    row_breaks NotUtf8 not_text = absurd (not_text tested.0)
    row_breaks LineTooLong long = absurd (omega (arith, tested.1.0))
    row_breaks TooManyLines many = absurd (omega (arith, tested.1.1))
    row_breaks UnknownWord broken = let P : Row → Type 0 = λ other. RowBreaks draft other UnknownWord in subst P (one_row line broken.row row broken.of_line has) broken.breaks
    row_breaks BadValue broken = let P : Row → Type 0 = λ other. RowBreaks draft other BadValue in subst P (one_row line broken.row row broken.of_line has) broken.breaks
    row_breaks UnknownName broken = let P : Row → Type 0 = λ other. RowBreaks draft other UnknownName in subst P (one_row line broken.row row broken.of_line has) broken.breaks
    row_breaks NameTaken broken = let P : Row → Type 0 = λ other. RowBreaks draft other NameTaken in subst P (one_row line broken.row row broken.of_line has) broken.breaks
    row_breaks TooManyNames broken = let P : Row → Type 0 = λ other. RowBreaks draft other TooManyNames in subst P (one_row line broken.row row broken.of_line has) broken.breaks
    row_breaks WrongPlace broken = let P : Row → Type 0 = λ other. RowBreaks draft other WrongPlace in subst P (one_row line broken.row row broken.of_line has) broken.breaks
    row_breaks NoMemory broken = let P : Row → Type 0 = λ other. RowBreaks draft other NoMemory in subst P (one_row line broken.row row broken.of_line has) broken.breaks

    line_breaks : (fault : ScriptFault) → RowBreaks draft row fault → Breaks draft number line fault
    line_breaks NotUtf8 none = absurd none
    line_breaks LineTooLong none = absurd none
    line_breaks TooManyLines none = absurd none
    line_breaks _ broken = record { read = read; row = row; of_line = has; breaks = broken }

    line_spells : (said : Line) → Spells draft row said → LineSpells draft line said
    line_spells Nothing none = absurd none
    line_spells _ spelled = record { read = read; row = row; of_line = has; spells = spelled }

    -- what is read of the words is read of the line
    pub reads_row : (answer : Result Line ScriptFault) → ReadsRow draft row answer → ReadsLine draft number line answer
    reads_row (Ok said) says = record { spelled = line_spells said says.spelled; keeps_rules = λ fault broken. says.keeps_rules fault (row_breaks fault broken) }
    reads_row (Err fault) faulty = ⊎_elim (λ free. inl free)
        (λ least. inr (record { breaks = line_breaks fault least.breaks; before_others = λ other broken. least.before_others other (row_breaks other broken) })) faulty

  pub reads_words : ¬ IsSkipped line → (words : List (List ℕ)) → AreWords words line → (answer : Result Line ScriptFault) → ReadsWords draft words answer → ReadsLine draft number line answer
  reads_words read words of_line answer reads = reads_row read reads.row (record { words = words; of_line = of_line; is = reads.is }) answer reads.reads

-- the first tests of a line
pub fails_tests : (draft : Draft) (number : ℕ) (line : List ℕ) (fault : ScriptFault) → ((other : Draft) → IsLeast (Breaks other number line) fault) → ReadsLine draft number line (Err fault)
fails_tests draft number line fault least = inr (least draft)

no_words : (others : List (List ℕ)) (last : List ℕ) → [] ≡ others ++ last ∷ [] → ⊥
no_words [] last e = cc
no_words (other ∷ others) last e = cc

-- a line has at least one word
pub some_text : (words : List (Bor (List ℕ))) (line : List ℕ) → AreWords (texts_at words) line → 1 ≤ length words
some_text [] line of_line = absurd (no_words of_line.others of_line.last of_line.parts)
some_text (word ∷ words) line of_line = omega arith
