-- The table of the code is the list of the definition, and `any` looks through it.
use Rattle.std.proofs.Common.{◌≡◌, ◌≢◌, ℕ, List, rules, subst, tests}
use Rattle.std.specs.Borrow.{Bor}
use Rattle.std.specs.Prelude.{Any, IsTrue, ◌↔◌}
use Rattle.std.specs.Slice.Iter.{iter_rest}
use Rattle.std.proofs.lemmas.Iterator.{cases_from_any, YieldsList-from_slice}
use Rattle.script_words.specs.Names.{reserved}
use Rattle.script_words.specs.Words.{texts_at}
use Rattle.script_words.proofs.AnyLemmas.{any_is, any_seen}
use Rattle.script_words.proofs.names.is_reserved.Goals as goal

pub returns : goal.returns
returns c =
    let word = c.args.word.now in
    let table : texts_at (iter_rest c.iter.result) ≡ reserved = search rules in
    let cases = cases_from_any _ _ _ (λ (taken : Bor (List ℕ)). taken.now ≡ word) (λ taken. taken.now ≢ word) c.any.ensures.ran (YieldsList-from_slice (iter_rest c.iter.result) (search rules)) (λ x q k. search (rules, tests)) (λ x q k. search (rules, tests)) in
    let seen = any_seen (λ (taken : Bor (List ℕ)). taken.now) (λ taken. taken ≡ word) (iter_rest c.iter.result) c.any.result cases in
    any_is reserved word c.any.result (subst (λ table. IsTrue c.any.result ↔ Any (λ taken. taken ≡ word) table) table seen)
