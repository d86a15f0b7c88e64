-- What `clap` finds in a line.
use Rattle.std.specs.Prelude.{◌≡◌, List, [], ◌∷◌, false, Some, None, codes}
use Rattle.clap.specs.Lexer.{usize_max}
use Rattle.clap.specs.Words.{Row, Rule, Shape, Text, new_app, new_rule, shape_of, subcommand_rows_of, with_rule}
use Rattle.clap.specs.declared.builder.command.Command.{Command}
use Rattle.clap.specs.declared.builder.command.Command.TheViews.{out-Command}
use Rattle.clap.specs.declared.builder.value_parser.Reading.TheVariants.{AsWritten}
use Rattle.clap.specs.declared.parser.matches.ArgMatches.{ArgMatches}
use Rattle.clap.specs.declared.parser.matches.ValueSource.TheVariants.{CommandLine}

-- an argument that takes any number of words
abbrev pub words_rule : Rule
words_rule = record (new_rule (codes "words")) { range = Some (record { start_inclusive = 0; end_inclusive = usize_max }) }

-- a command of this name that has it
abbrev pub with_words : Text → Shape
with_words name = (with_rule (new_app name) words_rule).top

-- the command is that one, and gives nothing to others
pub record TakesAny (name : Text) (command : Command) : Type 0 where
  pub shape : shape_of command ≡ with_words name
  pub local : (out-Command command).has_globals ≡ false

-- what is found of the words that are given to a command
abbrev pub rows_of_words : List Text → List Row
rows_of_words [] = []
rows_of_words (word ∷ rest) =
    record { id = codes "words"; values = word ∷ rest; count = None; source = Some CommandLine; reading = AsWritten } ∷ []

-- the matches have the name and the words of the line
abbrev pub HasWords : List Text → ArgMatches → Type 0
HasWords line matches = (name : Text) (given : List Text) → line ≡ name ∷ codes "--" ∷ given
    → subcommand_rows_of matches ≡ Some (name, rows_of_words given)
