-- There are as many steps as parts.
use Rattle.std.proofs.Common.{◌≡◌, ◌<◌, ◌≤◌, ◌∙◌, length, ap, rules}
use Rattle.std.proofs.lemmas.Result.{IfOk-weaker}
use Rattle.script_words.specs.EditWords.{SomeHasUnknownWord}
use Rattle.script_words.specs.Parts.{parts_at, parts_of}
use Rattle.script_words.specs.Words.{texts_at}
use Rattle.script_words.proofs.EditFaults.{few_parts, several_parts}
use Rattle.script_words.proofs.edit.many_steps.Goals as goal

pub returns-then-len-lt2-clause-err : goal.returns-then-len-lt2-clause-err
returns-then-len-lt2-clause-err c =
    let words = texts_at c.args.words.now in
    let same : parts_at c.in_ok-parts.parts.items ≡ parts_of words = c.in_ok-parts.ensures in
    let few : length c.in_ok-parts.parts.items < 2 = search rules in
    let known : SomeHasUnknownWord words → ⊥ = search rules in
    (known, few_parts words c.in_ok-parts.parts.items same few)

pub returns-clause-ok : goal.returns-clause-ok
returns-clause-ok c =
    let words = texts_at c.args.words.now in
    let same : parts_at c.in_ok-parts.parts.items ≡ parts_of words = c.in_ok-parts.ensures in
    let enough : 2 ≤ length c.deref-2.result.now = search rules in
    IfOk-weaker c.steps_of_parts.result _ _ (λ steps. several_parts words c.deref-2.result.now (ap parts_at c.deref-2.ensures.value ∙ same) enough steps.items) c.steps_of_parts.ensures.ok
