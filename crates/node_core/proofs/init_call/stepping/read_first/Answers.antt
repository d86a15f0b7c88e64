use Rattle.std.proofs.Common.{arith}
use Rattle.shelf.proofs.GoingOn.{fault_fits}
use Rattle.step_table.specs.Calls.{Initialise}
use Rattle.step_table.specs.Rows.{loads}
use Rattle.node_core.proofs.EarlyLemmas.{early_goes_on}
use Rattle.node_core.proofs.EquippedLemmas.{room_left}
use Rattle.node_core.proofs.RowLemmas.{goes_on}
use Rattle.node_core.proofs.init_call.stepping.read_first.Goals as goal

pub read_main-requires-clause-lawful : goal.read_main-requires-clause-lawful
read_main-requires-clause-lawful g c = λ told. fault_fits _ _ _ _ (early_goes_on _ _ c.requires.ready.early c.requires.lives c.requires.ready.numbers)

pub returns-in-Ok-clause-steps : goal.returns-in-Ok-clause-steps
returns-in-Ok-clause-steps g c =
    λ ask.
    let read = c.in-Ok.ensures.ok in
    goes_on g.P.C.Codec g.P.T.Transform g.P.F.Folder c.args.origin _ _ _ (loads read.reads) read.same (record { folder = read.contents; spared = λ told spares. tt; tally = read.tally })
    (record { entries = room_left 0 c.requires.ready.room read.same.room (omega arith); room = tt; may = λ told. tt })

pub returns-in-Err-clause-steps : goal.returns-in-Err-clause-steps
returns-in-Err-clause-steps g c = c.in-Err.ensures.err Initialise
