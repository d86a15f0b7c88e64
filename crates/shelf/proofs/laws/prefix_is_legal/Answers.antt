use Rattle.shelf.proofs.LegalLemmas.{Legal-front}
use Rattle.shelf.proofs.laws.prefix_is_legal.Goals as goal

pub returns : goal.returns
returns g c = Legal-front
