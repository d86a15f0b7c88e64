use Rattle.shelf.specs.ShelfSeen.{shelf_seen}
use Rattle.step_table.specs.Calls.{Update}
use Rattle.store_tests.proofs.GoingLemmas.{new_goes_on}
use Rattle.store_tests.proofs.reads.begin_update.Goals as goal

pub go_on_by-requires-clause-goes_on : goal.go_on_by-requires-clause-goes_on
go_on_by-requires-clause-goes_on g c =
    let e = c.new-update.ensures in
    rw (e.state, e.origin) (new_goes_on g.P.C.Codec g.P.T.Transform g.P.F.Folder c.args.call (Update c.args.edit) (shelf_seen c.args.shelf.now) c.requires.is_new c.requires.node)
