-- `any` looks through the parts.
use Rattle.std.proofs.Common.{List, ℕ, rules, tests}
use Rattle.std.specs.Borrow.{Bor}
use Rattle.std.proofs.lemmas.Iterator.{cases_from_any, YieldsList-from_slice}
use Rattle.script_words.specs.Unknown.{HasUnknownWord}
use Rattle.script_words.specs.Words.{texts_at}
use Rattle.script_words.proofs.AnyLemmas.{any_seen}
use Rattle.script_words.proofs.unknown.some_has_unknown_word.Goals as goal

pub returns : goal.returns
returns c =
    let cases = cases_from_any _ _ _ (λ (part : Bor (List (Bor (List ℕ)))). HasUnknownWord (texts_at part.now)) (λ part. ¬ HasUnknownWord (texts_at part.now)) c.any.ensures.ran (YieldsList-from_slice c.args.parts.now (search rules)) (λ x q k. search (rules, tests)) (λ x q k. search (rules, tests)) in
    any_seen (λ (part : Bor (List (Bor (List ℕ)))). texts_at part.now) HasUnknownWord c.args.parts.now c.any.result cases
