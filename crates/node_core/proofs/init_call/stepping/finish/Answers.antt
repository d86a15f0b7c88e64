use Rattle.std.proofs.Common.{arith}
use Rattle.shelf.proofs.GoingOn.{inited_fits}
use Rattle.step_table.specs.Rows.{finishes}
use Rattle.node_core.proofs.EarlyLemmas.{early_goes_on}
use Rattle.node_core.proofs.RowLemmas.{goes_on, version_left}
use Rattle.node_core.proofs.init_call.stepping.finish.Goals as goal

pub finish_init-requires-clause-lawful : goal.finish_init-requires-clause-lawful
finish_init-requires-clause-lawful g c =
    λ told.
    let ready = c.requires.ready in
    let read = ready.read told in
    (inited_fits _ _ _ _ (early_goes_on _ _ ready.early c.requires.lives ready.numbers) read.value read.held ready.unready, tt)

pub returns-clause-steps : goal.returns-clause-steps
returns-clause-steps g c =
    λ ask.
    let e = c.finish_init.ensures in
    goes_on g.P.C.Codec g.P.T.Transform g.P.F.Folder c.args.origin _ _ _ finishes e.turn e.folder (record { entries = omega arith; room = tt; may = λ told. tt })

pub returns-clause-raises : goal.returns-clause-raises
returns-clause-raises g c = version_left c.finish_init.ensures.turn
