use Rattle.shelf.specs.ShelfSeen.{shelf_seen}
use Rattle.store_tests.proofs.AloneLemmas.{new_is_alone}
use Rattle.store_tests.proofs.alone.to_its_end.Goals as goal

pub go_on-requires-clause-alone : goal.go_on-requires-clause-alone
go_on-requires-clause-alone g c =
    let e = c.new-update.ensures in
    rw (e.state, e.origin, e.initialised) (new_is_alone g.P.C.Codec g.P.T.Transform g.P.F.Folder c.args.call c.args.edit (shelf_seen c.args.shelf.now) c.requires.is_new c.requires.free c.requires.node)
