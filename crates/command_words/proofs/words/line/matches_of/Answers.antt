-- `clap` is asked at words that no test here can see, so its walk over them is proved by hand.
use Rattle.std.proofs.Common.{◌≡◌, ◌≤◌, ◌∙◌, ap, ap₂, arith, codes, length, true}
use Rattle.std.proofs.lemmas.List.{length-map}
use Rattle.std.proofs.lemmas.Result.{IfErr-weaker, IfOk-weaker}
use Rattle.clap.specs.Lexer.{usize_max}
use Rattle.clap.specs.Simple.{App, app_of, is_simple, new_shape, shape_of, subcommand_of, with_subcommand}
use Rattle.clap.specs.Takes.{takes}
use Rattle.command_words.specs.Line.{texts_at}
use Rattle.command_words.proofs.WalkLemmas.{alone_is, prefs, prefs_alone, prefs_simple, reads_line, takes_line}
use Rattle.command_words.proofs.words.line.matches_of.Goals as goal

built_is : (c : goal.After-try_get_matches_from) → app_of c.in_ok-subcommand-5.field-0 ≡ prefs
built_is c =
    let alone : app_of c.disable_help_subcommand.result ≡ prefs_alone =
    alone_is _ _ _ _ c.new.ensures.app c.no_binary_name.ensures c.disable_help_flag.ensures c.disable_help_subcommand.ensures in
    let show_is : shape_of c.new-2.result ≡ new_shape (codes "show") = ap (λ (a : App). a.top) c.new-2.ensures.app in
    let replay_is : shape_of c.new-3.result ≡ new_shape (codes "replay") = ap (λ (a : App). a.top) c.new-3.ensures.app in
    c.in_ok-subcommand-5.ensures.shape c.new-3.ensures.local
    ∙ ap₂ with_subcommand (c.in_ok-subcommand-4.ensures.shape c.new-2.ensures.local
    ∙ ap₂ with_subcommand (c.in_ok-subcommand-3.ensures.shape c.in_ok-remove.ensures.local
    ∙ ap₂ with_subcommand (c.in_ok-subcommand-2.ensures.shape c.in_ok-get.ensures.local
    ∙ ap₂ with_subcommand (c.in_ok-subcommand.ensures.shape c.in_ok-set.ensures.local ∙ ap₂ with_subcommand alone c.in_ok-set.ensures.shape)
    c.in_ok-get.ensures.shape) c.in_ok-remove.ensures.shape) show_is) replay_is

pub returns-clause-ok : goal.returns-clause-ok
returns-clause-ok c =
    let simple : is_simple (app_of c.in_ok-subcommand-5.field-0) ≡ true = ap is_simple (built_is c) ∙ prefs_simple in
    let parse = c.try_get_matches_from in
    IfOk-weaker parse.result _ _ (λ m h name given words.
    (h simple).1 ∙ ap (λ (a : App). subcommand_of a (texts_at c.args.line.now)) (built_is c) ∙ reads_line (texts_at c.args.line.now) c.requires name given words)
    parse.ensures.matches

pub returns-clause-err : goal.returns-clause-err
returns-clause-err c =
    let within : length c.args.line.now ≤ usize_max = omega arith in
    let texts_within : length (texts_at c.args.line.now) ≤ usize_max = simp length-map within in
    let parse = c.try_get_matches_from in
    IfErr-weaker parse.result _ _ (λ e h. h (ap (λ (a : App). takes a (texts_at c.args.line.now)) (built_is c) ∙ takes_line (texts_at c.args.line.now) c.requires texts_within))
    parse.ensures.passes
