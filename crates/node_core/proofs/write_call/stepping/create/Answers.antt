use Rattle.shelf.proofs.GoingOn.{fault_fits}
use Rattle.step_table.specs.Rows.{creates}
use Rattle.node_core.proofs.EarlyLemmas.{early_goes_on}
use Rattle.node_core.proofs.EquippedLemmas.{equipped_create}
use Rattle.node_core.proofs.RowLemmas.{goes_on, version_left, write_faults}
use Rattle.node_core.proofs.write_call.stepping.create.Goals as goal

pub create-requires-clause-lawful : goal.create-requires-clause-lawful
create-requires-clause-lawful g c = λ told. fault_fits _ _ _ _ (early_goes_on _ _ c.requires.ready.knows.entries c.requires.lives c.requires.ready.knows.numbers)

pub returns-in-Ok-clause-steps : goal.returns-in-Ok-clause-steps
returns-in-Ok-clause-steps g c =
    let e = c.in-Ok.ensures in
    rw (c.filling.ensures, e.plan) (goes_on g.P.C.Codec g.P.T.Transform g.P.F.Folder c.args.origin _ _ _ creates e.ok (record { folder = e.created; spared = λ told spares. tt; tally = e.tally })
    (equipped_create g.P.C.Codec g.P.T.Transform g.P.F.Folder c.args.origin.call _ _ _ e.ok e.room c.requires.ready.equipped))

pub returns-in-Err-clause-steps : goal.returns-in-Err-clause-steps
returns-in-Err-clause-steps g c = let e = c.in-Err.ensures in write_faults g.P.C.Codec g.P.T.Transform g.P.F.Folder c.args.origin _ _ _ _ _ e.err e.failed e.spared e.tally

pub returns-in-Err-clause-raises : goal.returns-in-Err-clause-raises
returns-in-Err-clause-raises g c = version_left c.in-Err.ensures.err.leaves
