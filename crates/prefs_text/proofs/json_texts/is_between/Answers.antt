use Rattle.std.proofs.Common.{◌≡◌, ◌∙◌, ◌++◌, ◌∷◌, [], Some, None, length, take, ◌-◌, ap}
use Rattle.std.proofs.lemmas.Str.Pattern.{strip_prefix_char, ends_char}
use Rattle.prefs_text.proofs.json_texts.is_between.Goals as goal

pub returns-in-Some : goal.returns-in-Some
returns-in-Some c =
    let first = c.args.first in
    let last = c.args.last in
    let rest = c.in-Some.rest.now in
    let begins = strip_prefix_char first c.args.text.now (Some c.in-Some.rest) c.in-Some.ensures.cases c.requires.first in
    let ends = ends_char last rest c.ends_with.result c.ends_with.ensures.cases c.requires.last in (
      λ yes. (take (length rest - 1) rest, begins ∙ ap (λ xs. first ∷ xs) (ends.0 yes)),
      λ between. let same : rest ≡ between.0 ++ last ∷ [] = cc (begins, between.1) in ends.1 between.0 same,
    )

pub returns-in-None : goal.returns-in-None
returns-in-None c =
    let other = strip_prefix_char c.args.first c.args.text.now None c.in-None.ensures.cases c.requires.first in
    (λ no. absurd cc, λ between. absurd (other (between.0 ++ c.args.last ∷ []) between.1))
