use Rattle.std.proofs.Common.{ap, ◌∙◌, arith}
use Rattle.folder_disk.specs.Contents.{Synced}
use Rattle.store_tests.proofs.UpdateLemmas.{all_written, fault_raised, piece_fits}
use Rattle.store_tests.proofs.single_update.fill.Goals as goal

pub create-requires-clause-lawful : goal.create-requires-clause-lawful
create-requires-clause-lawful g c = λ told. fault_raised _ _ _ _ c.requires.raised.list_is

pub append-requires-clause-folder_room : goal.append-requires-clause-folder_room
append-requires-clause-folder_room g c = rw c.in-Ok.ensures.plan (omega (arith, piece_fits c.args.plan 4096, c.requires.room.bytes, c.in-Ok.ensures.room.bytes_left))

pub append-requires-clause-lawful : goal.append-requires-clause-lawful
append-requires-clause-lawful g c = λ told. fault_raised _ _ _ _ (c.in-Ok.ensures.ok.list ∙ c.requires.raised.list_is)

pub sync_scratch-requires-clause-lawful : goal.sync_scratch-requires-clause-lawful
sync_scratch-requires-clause-lawful g c = λ told. fault_raised _ _ _ _ (c.in-Ok-append.ensures.ok.list ∙ (c.in-Ok.ensures.ok.list ∙ c.requires.raised.list_is))

pub returns-in-Ok-sync_scratch-clause-plan : goal.returns-in-Ok-sync_scratch-clause-plan
returns-in-Ok-sync_scratch-clause-plan g c =
    c.in-Ok-sync_scratch.ensures.plan ∙ all_written c.args.plan _ _ c.in-Ok.ensures.plan c.in-Ok-append.ensures.plan (omega (arith, c.rest.ensures))

pub returns-in-Ok-sync_scratch-clause-scratch : goal.returns-in-Ok-sync_scratch-clause-scratch
returns-in-Ok-sync_scratch-clause-scratch g c =
    λ told. let whole = all_written c.args.plan _ _ c.in-Ok.ensures.plan c.in-Ok-append.ensures.plan (omega (arith, c.rest.ensures)) in (c.in-Ok-sync_scratch.ensures.synced told).scratch ∙ ap Synced whole
