use Rattle.std.proofs.Common.{◌≡◌, ◌∙◌, Some, ap, refl}
use Rattle.store_traits.specs.declared.update_error.UpdateError.TheVariants.{NotDurable}
use Rattle.hist_journal.specs.Folds.{raises_of}
use Rattle.hist_journal.specs.Quiet.{pending}
use Rattle.shelf.specs.ShelfSeen.{shelf_seen}
use Rattle.shelf.proofs.Bools.{never}
use Rattle.shelf.proofs.GoingOn.{fault_fits}
use Rattle.step_table.specs.Requests.{SyncFolder}
use Rattle.step_table.specs.Rows.{acknowledges, sync_fails}
use Rattle.node_core.proofs.EarlyLemmas.{early_goes_on}
use Rattle.node_core.proofs.EndLemmas.{kept_fits, not_raised_twice}
use Rattle.node_core.proofs.RowLemmas.{ends_behind, faults, version_left}
use Rattle.node_core.proofs.update_call.stepping.sync_kept.Goals as goal

pub sync_folder-requires-clause-lawful : goal.sync_folder-requires-clause-lawful
sync_folder-requires-clause-lawful g c =
    λ told.
    let k = c.requires.ready.knows in
    kept_fits _ _ _ _ _ (early_goes_on _ _ k.entries c.requires.lives k.numbers) (k.holds refl).ready (k.contents told)

pub sync_folder-requires-clause-fault : goal.sync_folder-requires-clause-fault
sync_folder-requires-clause-fault g c = λ told. let k = c.requires.ready.knows in fault_fits _ _ _ _ (early_goes_on _ _ k.entries c.requires.lives k.numbers)

pub free-requires : goal.free-requires
free-requires g c =
    let k = c.requires.ready.knows in
    record { ended = λ is. not_raised_twice _ _ c.args.edit (λ was. never (k.raised.1 was)) (let here : pending _ ≡ Some c.args.origin.call = rw c.in-Ok.ensures.ok.list at is in here) }

pub returns-in-Ok-clause-steps : goal.returns-in-Ok-clause-steps
returns-in-Ok-clause-steps g c =
    let e = c.in-Ok.ensures in
    rw e.edition (ends_behind g.P.C.Codec g.P.T.Transform g.P.F.Folder c.args.origin _ _ _ (shelf_seen c.sync_folder.new.self) acknowledges e.ok
    (record { folder = e.synced; spared = λ told spares. tt; tally = e.tally })
    c.free.ensures.turn c.free.ensures.folder)

pub returns-in-Ok-clause-raises : goal.returns-in-Ok-clause-raises
returns-in-Ok-clause-raises g c = ap raises_of c.free.ensures.turn.list ∙ version_left c.in-Ok.ensures.ok

pub returns-in-Err-clause-steps : goal.returns-in-Err-clause-steps
returns-in-Err-clause-steps g c =
    let e = c.in-Err.ensures in
    faults g.P.C.Codec g.P.T.Transform g.P.F.Folder c.args.origin _ _ _ SyncFolder NotDurable _ sync_fails e.err (record { folder = e.failed; spared = λ told spares. e.failed told; tally = e.tally })

pub returns-in-Err-clause-raises : goal.returns-in-Err-clause-raises
returns-in-Err-clause-raises g c = version_left c.in-Err.ensures.err.leaves
