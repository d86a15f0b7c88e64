use Rattle.std.proofs.Common.{◌≡◌, ◌≢◌, rules, codes, get_or, string_bytes}
use Rattle.command_words.proofs.DashLemmas.{parted_at, refused_at, parted_whole}
use Rattle.command_words.proofs.words.dashes.parted.Goals as goal

pub returns-then-eq-clause-some : goal.returns-then-eq-clause-some
returns-then-eq-clause-some c =
    let dashes : string_bytes c.index-words-place.result ≡ codes "--" = search rules in
    parted_at c.args.words.now c.loop-place.place _ c.loop-place-test.true c.index-words-place.is dashes c.loop-place.invariant

pub returns-then-starts_with-clause-none : goal.returns-then-starts_with-clause-none
returns-then-starts_with-clause-none c =
    let dash : get_or (string_bytes c.index-words-place.result) 0 0 ≡ 45 = search rules in
    let other : string_bytes c.index-words-place.result ≢ codes "--" = search rules in
    refused_at c.args.words.now c.loop-place.place _ c.loop-place-test.true c.index-words-place.is dash other c.loop-place.invariant

pub returns-clause-some : goal.returns-clause-some
returns-clause-some c = parted_whole c.args.words.now c.loop-place.place c.loop-place-test.false c.loop-place.invariant
