use Rattle.hist_journal.proofs.FoldLemmas.{raises_of-append, raises_of-push, raises_of-listed}
use Rattle.hist_journal.proofs.fold_laws.raises_go_on.Goals as goal

pub returns : goal.returns
returns g c = record { front = raises_of-append; entry = raises_of-push; room = raises_of-listed }
