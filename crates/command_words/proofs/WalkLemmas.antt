-- What `clap` makes of a command's name, `--` and any words behind it.
use Rattle.std.proofs.Common.{◌≡◌, ◌∙◌, ◌≤◌, Bool, true, false, inl, inr, List, [], ◌∷◌, ◌++◌, length, Option, Some, None, codes, refl, ap, sym, fold, append_assoc, arith, le-leb}
use Rattle.std.proofs.lemmas.List.{append-nil}
use Rattle.std.specs.List.{list_all}
use Rattle.std.proofs.Math.Dec.{leb-zero}
use Rattle.std.specs.Prelude.{nat_le, option_map, unwrap_or, Box}
use Rattle.std.specs.Box.{box_value}
use Rattle.std.specs.Borrow.{Bor}
use Rattle.clap.specs.ValueTests.{accepts}
use Rattle.clap.specs.declared.builder.value_parser.ValueParser.TheVariants as parser
use Rattle.clap.specs.Lexer.{usize_max}
use Rattle.clap.specs.Words.{all_of, subcommand_rows}
use Rattle.clap.specs.declared.builder.command.Command.{Command}
use Rattle.clap.specs.declared.builder.command.Command.TheViews.{out-Command}
use Rattle.clap.specs.declared.parser.matches.SubCommand.{SubCommand}
use Rattle.clap.specs.declared.parser.matches.ArgMatches.TheViews.{out-SubCommand}
use Rattle.clap.specs.Simple.{App, Shape, new_app, new_shape, with_subcommand, on_top, app_of, app_of_fields, with_index, filled, subcommand_of, built, names_of, entered, is_simple}
use Rattle.clap.specs.Walk.{Text, Walk, idle, positional, walked, walk, walk_from, nothing_held, rows_after, Names}
use Rattle.clap.specs.Takes.{takes, level_passes, walk_passes, turn_passes, entered_passes}
use Rattle.clap.proofs.OnLiterals.{clap_on_literals}
use Rattle.command_words.specs.Line.{IsLine, MayFollow, StandsAlone, TakesWords, texts_at}
use Rattle.command_words.specs.Matches.{rows_of_words, with_words, words_rule}

-- the program without its commands
abbrev pub prefs_alone : App
prefs_alone = on_top (λ s. record s { no_binary_name = true; disable_help_flag = true; disable_help_subcommand = true }) (new_app (codes "prefs"))

-- and with them
abbrev pub prefs : App
prefs = with_subcommand (with_subcommand (with_subcommand (with_subcommand (with_subcommand prefs_alone (with_words (codes "set"))) (with_words (codes "get")))
    (with_words (codes "remove"))) (new_shape (codes "show"))) (new_shape (codes "replay"))

-- the program is this one, by what its builders say
pub alone_is : (new unnamed no_flag alone : Command) → app_of new ≡ new_app (codes "prefs")
    → out-Command unnamed ≡ record (out-Command new) { no_binary_name = true }
    → out-Command no_flag ≡ record (out-Command unnamed) { disable_help_flag = true }
    → out-Command alone ≡ record (out-Command no_flag) { disable_help_subcommand = true }
    → app_of alone ≡ prefs_alone
alone_is new unnamed no_flag alone is first second third =
    ap app_of_fields third ∙ ap (on_top (λ s. record s { disable_help_subcommand = true })) (ap app_of_fields second
    ∙ ap (on_top (λ s. record s { disable_help_flag = true })) (ap app_of_fields first ∙ ap (on_top (λ s. record s { no_binary_name = true })) is))

abbrev pub dashes : Text
dashes = codes "--"

-- ---- a walk that collects words

-- a fold that adds one word at each step adds them all
fold-collects : {W : Type 0} (step : W → Text → W) (at : List Text → W) → ((so_far : List Text) (word : Text) → step (at so_far) word ≡ at (so_far ++ word ∷ []))
    → (so_far words : List Text) → fold step (at so_far) words ≡ at (so_far ++ words)
fold-collects step at each so_far [] = ap at (sym (append-nil so_far))
fold-collects step at each so_far (word ∷ rest) =
    ap (λ w. fold step w rest) (each so_far word)
    ∙ fold-collects step at each (so_far ++ word ∷ []) rest ∙ ap at (append_assoc so_far (word ∷ []) rest)

-- and passes where each step passes
walk_passes-collects : (s : Shape) (names : Names) (at : List Text → Walk) → ((so_far : List Text) (word : Text) → walked s.rules names (at so_far) word ≡ at (so_far ++ word ∷ []))
    → ((so_far : List Text) (word : Text) → turn_passes s names (at so_far) word ≡ true)
    → (so_far words : List Text) → walk_passes s names (at so_far) words ≡ true
unfolding walk_passes
walk_passes-collects s names at each passes so_far [] = refl
walk_passes-collects s names at each passes so_far (word ∷ rest) =
    rw (passes so_far word, each so_far word) (walk_passes-collects s names at each passes (so_far ++ word ∷ []) rest)

-- ---- the words of a subcommand

abbrev built_shape : Text → Shape
built_shape name = record (with_words name) {
  rules = with_index 1 (filled words_rule) ∷ [];
  no_binary_name = true;
  disable_help_flag = true;
  disable_help_subcommand = true;
  is_built = true;
}

-- the walk once these words have come
abbrev collected : List Text → Walk
collected words = record {
  held = record { rows = []; pending = Some (codes "words", words); skip = 0 };
  waiting = positional;
  position = 1;
  is_trailing = true;
  stopped = None;
}

one_more : (name : Text) (so_far : List Text) (word : Text) → walked (built_shape name).rules [] (collected so_far) word ≡ collected (so_far ++ word ∷ [])
unfolding clap_on_literals
one_more name so_far word = refl

one_passes : (name : Text) (so_far : List Text) (word : Text) → turn_passes (built_shape name) [] (collected so_far) word ≡ true
unfolding clap_on_literals
one_passes name so_far word = refl

walk_is : (name word : Text) (rest : List Text) → walk (built_shape name).rules [] nothing_held (dashes ∷ word ∷ rest) ≡ collected (word ∷ rest)
unfolding clap_on_literals
walk_is name word rest = fold-collects (walked (built_shape name).rules []) collected (one_more name) (word ∷ []) rest

rows_are : (name : Text) (given : List Text) → rows_after (built_shape name).rules [] (dashes ∷ given) ≡ rows_of_words given
unfolding clap_on_literals
rows_are name [] = refl
rows_are name (word ∷ rest) = rw (walk_is name word rest) refl

values_taken : (ignore_case : Bool) (words : List Text) → list_all (accepts ignore_case parser.String) words ≡ true
values_taken ignore_case [] = refl
values_taken ignore_case (word ∷ rest) = values_taken ignore_case rest

level_taken : (name : Text) (given : List Text) → length given ≤ usize_max → level_passes (built_shape name) [] nothing_held (dashes ∷ given) false ≡ true
unfolding clap_on_literals
level_taken name [] within = refl
level_taken name (word ∷ rest) within =
    let least : nat_le 0 (length (word ∷ rest)) ≡ true = leb-zero (length (word ∷ rest)) in
    let most : nat_le (length (word ∷ rest)) usize_max ≡ true = le-leb _ _ within in
    rw (walk_is name word rest, walk_passes-collects (built_shape name) [] collected (one_more name) (one_passes name) (word ∷ []) rest, least, most, values_taken false (word ∷ rest)) refl

-- ---- the name of the subcommand

-- the walk once the name and these words have come
abbrev stopped_at : Text → List Text → Walk
stopped_at name words = record { held = nothing_held; waiting = idle; position = 1; is_trailing = false; stopped = Some (name, words) }

one_kept : (s : Shape) (names : Names) (name : Text) (so_far : List Text) (word : Text) → walked s.rules names (stopped_at name so_far) word ≡ stopped_at name (so_far ++ word ∷ [])
unfolding walked
one_kept s names name so_far word = refl

all_kept : (s : Shape) (names : Names) (name : Text) (words : List Text) → fold (walked s.rules names) (stopped_at name []) words ≡ stopped_at name words
all_kept s names name words = fold-collects (walked s.rules names) (stopped_at name) (one_kept s names name) [] words

all_pass : (s : Shape) (names : Names) (name : Text) (words : List Text) → walk_passes s names (stopped_at name []) words ≡ true
all_pass s names name words = walk_passes-collects s names (stopped_at name) (one_kept s names name) (λ so_far word. refl) [] words

abbrev top : Shape
top = (built prefs).top

abbrev names : Names
names = names_of (built prefs)

stops : (name : Text) (words : List Text) → TakesWords name → walk top.rules names nothing_held (name ∷ words) ≡ stopped_at name words
unfolding clap_on_literals
stops name words (inl e) = rw e (all_kept top names (codes "set") words)
stops name words (inr (inl e)) = rw e (all_kept top names (codes "get") words)
stops name words (inr (inr e)) = rw e (all_kept top names (codes "remove") words)

passes : (name : Text) (words : List Text) → TakesWords name → walk_passes top names (walk_from nothing_held) (name ∷ words) ≡ true
unfolding clap_on_literals
passes name words (inl e) = rw e (all_pass top names (codes "set") words)
passes name words (inr (inl e)) = rw e (all_pass top names (codes "get") words)
passes name words (inr (inr e)) = rw e (all_pass top names (codes "remove") words)

-- the subcommand that a name enters
enters : (name : Text) (words : List Text) → TakesWords name → entered (built prefs) (Some (name, words)) ≡ Some (name, rows_after (built_shape name).rules [] words)
unfolding clap_on_literals
enters name words (inl e) = rw e refl
enters name words (inr (inl e)) = rw e refl
enters name words (inr (inr e)) = rw e refl

enters_passing : (name : Text) (words : List Text) → TakesWords name → entered_passes (built prefs) (Some (name, words)) ≡ level_passes (built_shape name) [] nothing_held words false
unfolding clap_on_literals
enters_passing name words (inl e) = rw e refl
enters_passing name words (inr (inl e)) = rw e refl
enters_passing name words (inr (inr e)) = rw e refl

reads_words : (name : Text) (given : List Text) → TakesWords name → subcommand_of prefs (name ∷ dashes ∷ given) ≡ Some (name, rows_of_words given)
reads_words name given takes-words =
    rw (stops name (dashes ∷ given) takes-words, enters name (dashes ∷ given) takes-words, rows_are name given) refl

takes_words : (name : Text) (given : List Text) → TakesWords name → length given ≤ usize_max → takes prefs (name ∷ dashes ∷ given) ≡ true
takes_words name given takes-words within =
    rw (stops name (dashes ∷ given) takes-words, passes name (dashes ∷ given) takes-words, enters_passing name (dashes ∷ given) takes-words, level_taken name given within) refl

-- ---- lines

reads_alone : (name : Text) → StandsAlone name → subcommand_of prefs (name ∷ dashes ∷ []) ≡ Some (name, [])
unfolding clap_on_literals
reads_alone name (inl e) = rw e refl
reads_alone name (inr e) = rw e refl

takes_alone : (name : Text) → StandsAlone name → takes prefs (name ∷ dashes ∷ []) ≡ true
unfolding clap_on_literals
takes_alone name (inl e) = rw e refl
takes_alone name (inr e) = rw e refl

-- each line is read as its name and the words that are given
pub reads_line : (line : List Text) → IsLine line → (name : Text) (given : List Text) → line ≡ name ∷ dashes ∷ given
    → subcommand_of prefs line ≡ Some (name, rows_of_words given)
reads_line line is name given words = go is.fits
  where
    read : (name : Text) (given : List Text) → MayFollow name given → subcommand_of prefs (name ∷ dashes ∷ given) ≡ Some (name, rows_of_words given)
    read name given (inl takes-words) = reads_words name given takes-words
    read name given (inr alone) = rw alone.1 (reads_alone name alone.0)

    go : MayFollow is.name is.given → subcommand_of prefs line ≡ Some (name, rows_of_words given)
    go fits =
        let same : is.name ∷ dashes ∷ is.given ≡ name ∷ dashes ∷ given = sym is.words ∙ words in
        let names_same : is.name ≡ name = cc in
        let given_same : is.given ≡ given = cc in
        rw (← names_same, ← given_same, is.words) (read is.name is.given fits)

-- and no line is refused
pub takes_line : (line : List Text) → IsLine line → length line ≤ usize_max → takes prefs line ≡ true
takes_line line is within = rw is.words (taken is.name is.given is.fits (omega (arith, ap length is.words)))
  where
    taken : (name : Text) (given : List Text) → MayFollow name given → length given ≤ usize_max → takes prefs (name ∷ dashes ∷ given) ≡ true
    taken name given (inl takes-words) within = takes_words name given takes-words within
    taken name given (inr alone) within = rw alone.1 (takes_alone name alone.0)

pub prefs_simple : is_simple prefs ≡ true
unfolding clap_on_literals
prefs_simple = refl

-- ---- what the getters give

-- the words of the matches, or none where there is no row of them
pub given_words : (found : Option (Bor (List (Bor Text)))) (none : Bor (List (Bor Text))) (given : List Text) → none.now ≡ []
    → option_map (λ s. texts_at s.now) found ≡ all_of (codes "words") (rows_of_words given) → texts_at (unwrap_or found none).now ≡ given
unfolding clap_on_literals
given_words None none [] empty same = rw empty refl
given_words None none (word ∷ rest) empty same = cc
given_words (Some s) none [] empty same = cc
given_words (Some s) none (word ∷ rest) empty same = cc

-- the name of the subcommand, by its rows
module _ {Z : Type 0} where
  pub name_of_rows : (o : Option (Box SubCommand Z)) → option_map (λ b. (out-SubCommand (box_value b)).name.now) o ≡ option_map (λ p. p.0) (subcommand_rows o)
  name_of_rows None = refl
  name_of_rows (Some b) = refl
