use Rattle.shelf.specs.ShelfSeen.{shelf_seen}
use Rattle.shelf.proofs.GoingOn.{fault_fits}
use Rattle.step_table.specs.Calls.{Serve, Update}
use Rattle.node_core.proofs.ApplyLemmas.{keeps_value, makes_none, writes}
use Rattle.node_core.proofs.EarlyLemmas.{early_goes_on}
use Rattle.node_core.proofs.update_call.stepping.read.Goals as goal

pub read_main-requires-clause-lawful : goal.read_main-requires-clause-lawful
read_main-requires-clause-lawful g c = λ told. let k = c.requires.ready.knows in fault_fits _ _ _ _ (early_goes_on _ _ k.entries c.requires.lives k.numbers)

pub returns-in-Err-clause-steps : goal.returns-in-Err-clause-steps
returns-in-Err-clause-steps g c = rw c.as_update_error.ensures (c.in-Err.ensures.err Serve (Update c.args.edit))

pub returns-in-Ok-Some-clause-steps : goal.returns-in-Ok-Some-clause-steps
returns-in-Ok-Some-clause-steps g c =
    let e = c.in-Ok-Some.ensures in
    let made = rw c.in-Ok-Some.field-0-is at e.row in
    let room = rw c.in-Ok-Some.field-0-is at e.room in
    rw c.in-Ok-Some.field-0-is (writes g.P.C.Codec g.P.T.Transform g.P.F.Folder c.args.origin c.args.edit c.in-Ok.given (shelf_seen c.args.shelf.now) (shelf_seen c.read_main.new.shelf) (shelf_seen c.apply.new.shelf)
    c.in-Ok.ensures.ok
    e.same
    e.contents
    e.tally
    c.requires.ready.equipped
    c.in-Ok-Some.field-0-0
    made
    room)

pub returns-in-Ok-None-clause-steps : goal.returns-in-Ok-None-clause-steps
returns-in-Ok-None-clause-steps g c =
    let e = c.in-Ok-None.ensures in
    let made = rw c.in-Ok-None.field-0-is at e.row in
    keeps_value g.P.C.Codec g.P.T.Transform g.P.F.Folder c.args.origin c.args.edit c.in-Ok.given (shelf_seen c.args.shelf.now) (shelf_seen c.read_main.new.shelf) (shelf_seen c.apply.new.shelf)
    c.in-Ok.ensures.ok
    e.same
    e.contents
    e.tally
    c.requires.ready.equipped
    made

pub returns-clause-steps : goal.returns-clause-steps
returns-clause-steps g c =
    let e = c.in-Err-apply.ensures in
    makes_none g.P.C.Codec g.P.T.Transform g.P.F.Folder c.args.origin c.args.edit c.in-Ok.given (shelf_seen c.args.shelf.now) (shelf_seen c.read_main.new.shelf) (shelf_seen c.apply.new.shelf)
    c.in-Ok.ensures.ok
    e.same
    e.contents
    e.tally
    c.in-Err-apply.error
    (shelf_seen c.free.new.self)
    e.row
    c.free.ensures.turn
    c.free.ensures.folder
