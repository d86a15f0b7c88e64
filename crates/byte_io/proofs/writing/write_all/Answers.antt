use Rattle.byte_io.proofs.WriteLemmas.{prefix_of_wrote}
use Rattle.byte_io.proofs.writing.write_all.Goals as goal

pub returns-in_default-clause-taken : goal.returns-in_default-clause-taken
returns-in_default-clause-taken g c is_told =
    rw (c.in_default.ensures.taken is_told)
    (prefix_of_wrote c.args.piece.now c.loop-rest.rest.now (g.K.Sink.held c.args.sink.now) (g.K.Sink.held c.loop-rest.sink)
    (c.loop-rest.invariant.wrote is_told))
