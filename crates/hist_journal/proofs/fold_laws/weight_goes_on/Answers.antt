use Rattle.hist_journal.proofs.FoldLemmas.{weight_of-append, weight_of-push}
use Rattle.hist_journal.proofs.fold_laws.weight_goes_on.Goals as goal

pub returns : goal.returns
returns g c = record { front = weight_of-append; entry = weight_of-push }
