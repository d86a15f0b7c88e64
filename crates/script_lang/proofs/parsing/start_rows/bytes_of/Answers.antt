use Rattle.std.proofs.Common.{◌≡◌, ◌/◌, length, arith, rules}
use Rattle.script_lang.proofs.FileLemmas.{spelled_half}
use Rattle.script_lang.proofs.parsing.start_rows.bytes_of.Goals as goal

pub returns-then-count-eq0-clause-none : goal.returns-then-count-eq0-clause-none
returns-then-count-eq0-clause-none c = λ bytes spelled.
    let half : length bytes ≡ length c.args.word.now / 2 = spelled_half c.args.word.now bytes spelled in
    let some = spelled.some in
    omega arith

pub returns-then-not-decode_lower-clause-none : goal.returns-then-not-decode_lower-clause-none
returns-then-not-decode_lower-clause-none c = λ bytes spelled.
    let half : length bytes ≡ length c.args.word.now / 2 = spelled_half c.args.word.now bytes spelled in
    let differs = rw c.if-not-decode_lower.true at c.decode_lower.ensures.no in
    let sized : length bytes ≡ length c.deref_mut.result.now = search rules in
    differs bytes sized spelled.are_bytes spelled.digits
