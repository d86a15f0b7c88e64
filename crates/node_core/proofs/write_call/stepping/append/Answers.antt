use Rattle.std.proofs.Common.{◌++◌}
use Rattle.folder_disk.specs.Contents.{Unsynced}
use Rattle.scratch_rename.specs.Filling.{next_piece}
use Rattle.shelf.proofs.GoingOn.{fault_fits}
use Rattle.step_table.specs.Rows.{appends}
use Rattle.node_core.proofs.EarlyLemmas.{early_goes_on}
use Rattle.node_core.proofs.EquippedLemmas.{equipped_append, of_scratch, piece_fits}
use Rattle.node_core.proofs.RowLemmas.{goes_on, version_left, write_faults}
use Rattle.node_core.proofs.write_call.stepping.append.Goals as goal

pub append-requires-clause-lawful : goal.append-requires-clause-lawful
append-requires-clause-lawful g c = λ told. fault_fits _ _ _ _ (early_goes_on _ _ c.requires.ready.knows.entries c.requires.lives c.requires.ready.knows.numbers)

pub append-requires-clause-folder_room : goal.append-requires-clause-folder_room
append-requires-clause-folder_room g c = piece_fits _ _ c.requires.ready.equipped.room.bytes

pub returns-in-Ok-clause-steps : goal.returns-in-Ok-clause-steps
returns-in-Ok-clause-steps g c =
    let e = c.in-Ok.ensures in
    let ready = c.requires.ready in
    rw (c.filling.ensures, e.plan) (goes_on g.P.C.Codec g.P.T.Transform g.P.F.Folder c.args.origin _ _ _ appends e.ok
    (record { folder = λ told. of_scratch (λ bytes. Unsynced (bytes ++ next_piece c.args.plan)) _ _ _ (ready.knows.contents told).scratch (e.appended told); spared = λ told spares. tt; tally = e.tally })
    (equipped_append g.P.C.Codec g.P.T.Transform g.P.F.Folder c.args.origin.call _ _ _ e.ok e.room ready.equipped))

pub returns-in-Err-clause-steps : goal.returns-in-Err-clause-steps
returns-in-Err-clause-steps g c = let e = c.in-Err.ensures in write_faults g.P.C.Codec g.P.T.Transform g.P.F.Folder c.args.origin _ _ _ _ _ e.err e.failed e.spared e.tally

pub returns-in-Err-clause-raises : goal.returns-in-Err-clause-raises
returns-in-Err-clause-raises g c = version_left c.in-Err.ensures.err.leaves
