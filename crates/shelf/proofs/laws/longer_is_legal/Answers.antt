use Rattle.shelf.proofs.LegalLemmas.{Legal-empty, Legal-push-iff}
use Rattle.shelf.proofs.laws.longer_is_legal.Goals as goal

pub returns : goal.returns
returns g c = record { empty = Legal-empty; entry = Legal-push-iff }
