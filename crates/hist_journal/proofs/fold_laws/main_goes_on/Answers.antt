use Rattle.hist_journal.proofs.FoldLemmas.{main_of-change, main_of-other}
use Rattle.hist_journal.proofs.fold_laws.main_goes_on.Goals as goal

pub returns : goal.returns
returns g c = record { change = main_of-change; other = main_of-other }
