use Rattle.folder_disk.specs.Contents.{Synced}
use Rattle.shelf.proofs.GoingOn.{fault_fits}
use Rattle.step_table.specs.Rows.{syncs_scratch}
use Rattle.node_core.proofs.EarlyLemmas.{early_goes_on}
use Rattle.node_core.proofs.EquippedLemmas.{equipped_sync, of_scratch}
use Rattle.node_core.proofs.RenameLemmas.{on_whole}
use Rattle.node_core.proofs.RowLemmas.{goes_on, version_left, write_faults}
use Rattle.node_core.proofs.write_call.stepping.sync_scratch.Goals as goal

pub sync_scratch-requires-clause-lawful : goal.sync_scratch-requires-clause-lawful
sync_scratch-requires-clause-lawful g c = λ told. fault_fits _ _ _ _ (early_goes_on _ _ c.requires.ready.knows.entries c.requires.lives c.requires.ready.knows.numbers)

pub returns-in-Ok-clause-steps : goal.returns-in-Ok-clause-steps
returns-in-Ok-clause-steps g c =
    let e = c.in-Ok.ensures in
    let ready = c.requires.ready in
    rw e.plan (on_whole g.P.C.Codec g.P.T.Transform g.P.F.Folder c.args.origin _ _ _ _ _ ready.knows.plan.nothing_left (goes_on g.P.C.Codec g.P.T.Transform g.P.F.Folder c.args.origin _ _ _ syncs_scratch e.ok
    (record { folder = λ told. of_scratch Synced _ _ _ (ready.knows.contents told).scratch (e.synced told); spared = λ told spares. tt; tally = e.tally })
    (equipped_sync g.P.C.Codec g.P.T.Transform g.P.F.Folder c.args.origin.call _ _ _ e.ok e.room ready.equipped)))

pub returns-in-Err-clause-steps : goal.returns-in-Err-clause-steps
returns-in-Err-clause-steps g c = let e = c.in-Err.ensures in write_faults g.P.C.Codec g.P.T.Transform g.P.F.Folder c.args.origin _ _ _ _ _ e.err e.failed e.spared e.tally

pub returns-in-Err-clause-raises : goal.returns-in-Err-clause-raises
returns-in-Err-clause-raises g c = version_left c.in-Err.ensures.err.leaves
