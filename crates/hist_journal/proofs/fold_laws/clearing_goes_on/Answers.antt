use Rattle.hist_journal.proofs.ClearingLemmas.{ends_in_replace-push, HasEntry-append, HasEntry-push}
use Rattle.hist_journal.proofs.fold_laws.clearing_goes_on.Goals as goal

pub returns : goal.returns
returns g c = record { replace = ends_in_replace-push; synced = λ call. HasEntry-push _; front = HasEntry-append _; fault = HasEntry-push _ }
