use Rattle.shelf.proofs.StoreLemmas.{legal_alike}
use Rattle.shelf.proofs.laws.lawful_by_the_start.Goals as goal

pub returns : goal.returns
returns g c = legal_alike
