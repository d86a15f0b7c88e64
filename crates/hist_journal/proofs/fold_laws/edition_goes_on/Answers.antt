use Rattle.hist_journal.proofs.FoldLemmas.{edition_of-append, edition_of-push}
use Rattle.hist_journal.proofs.fold_laws.edition_goes_on.Goals as goal

pub returns : goal.returns
returns g c = record { front = edition_of-append; entry = edition_of-push }
