use Rattle.std.proofs.Common.{◌≡◌, ◌∙◌, ap, length, refl, sym}
use Rattle.std.proofs.Math.Bool.{Bool-set}
use Rattle.std.proofs.Math.Logic.{∥∥₁_elim}
use Rattle.hist_journal.specs.Folds.{raises_of}
use Rattle.hist_journal.specs.Journal.{JournalSeen}
use Rattle.shelf.proofs.GoingOn.{fault_fits}
use Rattle.shelf.proofs.PendingLemmas.{open_iff_pending}
use Rattle.node_core.proofs.EarlyLemmas.{early_goes_on}
use Rattle.node_core.proofs.RenameLemmas.{edit_may, publishes_edit, raises_nothing, renames_main, writes_due}
use Rattle.node_core.proofs.RowLemmas.{version_left, write_faults}
use Rattle.node_core.proofs.write_call.stepping.rename.Goals as goal

pub rename-requires-clause-fault : goal.rename-requires-clause-fault
rename-requires-clause-fault g c = λ told. fault_fits _ _ _ _ (early_goes_on _ _ c.requires.ready.knows.entries c.requires.lives c.requires.ready.knows.numbers)

pub rename-requires-clause-lawful : goal.rename-requires-clause-lawful
rename-requires-clause-lawful g c =
    λ told.
    let k = c.requires.ready.knows in
    let opened = ∥∥₁_elim c.args.shelf.now.kept (Bool-set _ _) (λ kept. (open_iff_pending _ _ _ _ (kept.main told).legal).1 (k.raised.0 refl)) in
    edit_may _ _ _ _ _ k.plan.asked (early_goes_on _ _ k.entries c.requires.lives k.numbers) opened (k.holds refl).ready (k.contents told).due.allowed

pub rename-requires-clause-writes : goal.rename-requires-clause-writes
rename-requires-clause-writes g c = λ told. let ready = c.requires.ready in writes_due _ _ _ _ _ _ _ (ready.knows.contents told).due (ready.equipped.may told)

pub returns-in-Ok-clause-steps : goal.returns-in-Ok-clause-steps
returns-in-Ok-clause-steps g c =
    let e = c.in-Ok.ensures in
    let place = c.len.ensures ∙ ap (λ (journal : JournalSeen g.row.P-C-Value.Denot g.row.P-T.Denot). length journal.list) c.journal.ensures in
    renames_main g.P.C.Codec g.P.T.Transform g.P.F.Folder c.args.origin _ _ _ _ c.requires.ready.equipped e.ok place (record { folder = e.renamed; spared = λ told spares. tt; tally = e.tally })

-- the version behind the edit is still that of the Raise
version : (g : _) (c : goal.After-drop-renamed-inside g) → g.W.Word.number c.args.word.now ≡ raises_of c.rename.new.self.ledger.journal.list
version g c = c.requires.number ∙ sym (version_left c.in-Ok.ensures.ok ∙ raises_nothing _ _ c.requires.ready.knows.plan.asked)

pub returns-in-Ok-clause-published : goal.returns-in-Ok-clause-published
returns-in-Ok-clause-published g c = rw (c.new.ensures, c.load.ensures.value, c.edition.ensures, version g c) (publishes_edit _ _ c.requires.ready.knows.plan.asked)

pub returns-in-Ok-clause-number : goal.returns-in-Ok-clause-number
returns-in-Ok-clause-number g c = c.load.ensures.number ∙ version g c

pub returns-in-Err-clause-steps : goal.returns-in-Err-clause-steps
returns-in-Err-clause-steps g c = let e = c.in-Err.ensures in write_faults g.P.C.Codec g.P.T.Transform g.P.F.Folder c.args.origin _ _ _ _ _ e.err e.failed (λ told spares. e.failed told) e.tally

pub returns-in-Err-clause-number : goal.returns-in-Err-clause-number
returns-in-Err-clause-number g c = c.requires.number ∙ sym (version_left c.in-Err.ensures.err.leaves)
