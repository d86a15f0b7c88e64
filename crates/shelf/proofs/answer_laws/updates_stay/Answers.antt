use Rattle.shelf.proofs.CauseLemmas.{IsUpdated-more}
use Rattle.shelf.proofs.answer_laws.updates_stay.Goals as goal

pub returns : goal.returns
returns g c = IsUpdated-more
