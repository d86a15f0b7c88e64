use Rattle.hist_journal.proofs.QuietLemmas.{pending-push, pending-raise, Quiet-push, Quiet-ended}
use Rattle.hist_journal.proofs.fold_laws.pending_goes_on.Goals as goal

pub returns : goal.returns
returns g c = record { entry = pending-push; raise = pending-raise; quiet = Quiet-push; ended = Quiet-ended }
