use Rattle.hist_journal.proofs.FoldLemmas.{value_of-append, value_of-push, value_of-other}
use Rattle.hist_journal.proofs.fold_laws.value_goes_on.Goals as goal

pub returns : goal.returns
returns g c = record { front = value_of-append; entry = value_of-push; other = value_of-other }
