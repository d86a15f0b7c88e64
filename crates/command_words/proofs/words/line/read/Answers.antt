use Rattle.std.proofs.Common.{◌≡◌, ◌∙◌, ap, refl, List, Some, None, codes, option_map}
use Rattle.std.proofs.lemmas.Result.{IfOk-weaker}
use Rattle.clap.specs.Walk.{Row, Text}
use Rattle.clap.specs.Words.{rows_of, found_of, all_of, subcommand_rows_of}
use Rattle.clap.proofs.WalkLemmas.{raw_values-rows}
use Rattle.clap.specs.declared.parser.matches.ArgMatches.TheViews.{out-ArgMatches}
use Rattle.command_words.specs.Line.{texts_at}
use Rattle.command_words.specs.Matches.{rows_of_words}
use Rattle.command_words.proofs.WalkLemmas.{given_words, name_of_rows}
use Rattle.command_words.proofs.LineLemmas.{line_asks_some, line_asks_none}
use Rattle.command_words.proofs.words.line.read.Goals as goal

name_is : (c : goal.Joined-matches) → c.in-Some.name.now ≡ c.requires.name
name_is c =
    let rows : subcommand_rows_of c.in-Ok.matches ≡ Some (c.requires.name, rows_of_words c.requires.given) = c.in-Ok.ensures.ok _ _ c.requires.words in
    let found : Some c.in-Some.name.now ≡ Some c.requires.name =
    c.in-Some.ensures.name ∙ name_of_rows (out-ArgMatches c.in-Ok.matches).subcommand ∙ ap (option_map (λ (p : Text × List Row). p.0)) rows in
    cc

words_are : (c : goal.Joined-matches) → texts_at c.unwrap_or.result.now ≡ c.requires.given
words_are c =
    let rows : subcommand_rows_of c.in-Ok.matches ≡ Some (c.requires.name, rows_of_words c.requires.given) = c.in-Ok.ensures.ok _ _ c.requires.words in
    let found : Some (rows_of (found_of c.in-Some.found.now)) ≡ Some (rows_of_words c.requires.given) =
    c.in-Some.ensures.rows ∙ ap (option_map (λ (p : Text × List Row). p.1)) rows in
    let same : rows_of (found_of c.in-Some.found.now) ≡ rows_of_words c.requires.given = cc in
    let got = c.get_strs.ensures ∙ raw_values-rows (found_of c.in-Some.found.now) (codes "words") ∙ ap (all_of (codes "words")) same in
    ap (λ s. texts_at s.now) c.unwrap_or.ensures ∙ given_words c.get_strs.result _ c.requires.given refl got

pub returns-in-Some-clause-some : goal.returns-in-Some-clause-some
returns-in-Some-clause-some c =
    IfOk-weaker c.row.result _ _ (λ r h. line_asks_some c.requires.name c.requires.given _ c.requires.words r (rw (← name_is c, ← words_are c) h)) c.row.ensures.some

pub returns-in-Some-clause-none : goal.returns-in-Some-clause-none
returns-in-Some-clause-none c =
    IfOk-weaker c.row.result _ _ (λ r h. line_asks_none c.requires.name c.requires.given _ c.requires.words r (rw (← name_is c, ← words_are c) h)) c.row.ensures.none

pub returns-clause-none : goal.returns-clause-none
returns-clause-none c command asks =
    let rows : subcommand_rows_of c.in-Ok.matches ≡ Some (c.requires.name, rows_of_words c.requires.given) = c.in-Ok.ensures.ok _ _ c.requires.words in
    let bad : None ≡ Some c.requires.name =
    c.in-None.ensures.name ∙ name_of_rows (out-ArgMatches c.in-Ok.matches).subcommand ∙ ap (option_map (λ (p : Text × List Row). p.0)) rows in
    cc
