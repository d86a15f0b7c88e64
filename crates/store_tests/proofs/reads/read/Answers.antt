use Rattle.shelf.specs.ShelfSeen.{shelf_seen}
use Rattle.step_table.specs.Calls.{Read}
use Rattle.store_tests.proofs.GoingLemmas.{new_goes_on}
use Rattle.store_tests.proofs.reads.read.Goals as goal

pub answer-answer-requires-clause-goes_on : goal.answer-answer-requires-clause-goes_on
answer-answer-requires-clause-goes_on g c =
    let e = c.new-read.ensures in
    rw (e.state, e.origin) (new_goes_on g.P.C.Codec g.P.T.Transform g.P.F.Folder c.args.call Read (shelf_seen c.args.shelf.now) c.requires.is_new c.requires.node)
