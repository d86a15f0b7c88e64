-- The parts are what the slice is split into.
use Rattle.std.proofs.Common.{List, ℕ, rules, tests}
use Rattle.std.specs.Borrow.{Bor}
use Rattle.std.proofs.lemmas.Iterator.Consumers.{map_from_collect}
use Rattle.std.proofs.lemmas.Iterator.Splits.{YieldsList-from_slice_split}
use Rattle.std.proofs.lemmas.Result.{IfOk-weaker}
use Rattle.script_words.specs.Parts.{is_semicolon}
use Rattle.script_words.proofs.PartLemmas.{parts_seen}
use Rattle.script_words.proofs.parts.parts_of.Goals as goal

pub returns : goal.returns
returns c =
    IfOk-weaker c.collect.result _ _ (λ parts. parts_seen c.args.words.now parts.items)
    (map_from_collect _ c.collect.ensures.ran (YieldsList-from_slice_split _ (λ (word : Bor (List ℕ)). is_semicolon word.now) c.args.words.now c.split.ensures.rest c.split.ensures.done c.split.ensures.closure (λ x b q k. search (rules, tests))))
