use Rattle.std.proofs.Common.{refl}
use Rattle.hist_journal.specs.Nodes.{is_dead, last_mark}
use Rattle.node_core.proofs.DyingFits.{new_death_fits}
use Rattle.store_tests.proofs.GoingLemmas.{first_is_new}
use Rattle.store_tests.proofs.single_update.initialise.Goals as goal

-- nothing was told yet, so a Death of the node would fit
pub begin-requires-clause-lawful : goal.begin-requires-clause-lawful
unfolding is_dead last_mark
begin-requires-clause-lawful g c =
    λ told lives.
    let new = first_is_new c.args.call c.args.shelf.now.ledger.journal.list c.requires.fresh in
    (new_death_fits c.args.call _ _ _ new.none new.numbers (rw c.requires.fresh refl), tt)
