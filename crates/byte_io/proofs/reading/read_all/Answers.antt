use Rattle.std.proofs.Common.{◌≡◌, ◌+◌, ◌-◌, length, refl, ap, rules}
use Rattle.std.proofs.lemmas.Result.{err_from_is_err_and}
use Rattle.byte_io.specs.Seen.{source_seen}
use Rattle.byte_io.proofs.ReadLemmas.{stopped}
use Rattle.byte_io.proofs.reading.read_all.Goals as goal

pub returns-in_err-taken-clause-read : goal.returns-in_err-taken-clause-read
returns-in_err-taken-clause-read g c =
    let stop = err_from_is_err_and c.from_residual.result c.from_residual.ensures.1 in
    let seen = source_seen g.S.Source in
    let same : c.len.result ≡ length c.loop-bytes.bytes.items = search rules in
    rw (stop.1, stop.2)
    (stopped c.args.limit (c.args.limit + 1 - c.len.result) c.loop-bytes.bytes.items c.read_piece.new.bytes.items
    (seen c.args.source.now) (seen c.loop-bytes.source) (seen c.read_piece.new.source) c.in_err-taken.field-0.0 c.loop-bytes.invariant.whole refl c.loop-bytes.invariant.within
    (ap (λ n. c.args.limit + 1 - n) same) c.in_err-taken.ensures.gathered)
