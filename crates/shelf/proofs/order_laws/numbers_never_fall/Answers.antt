use Rattle.shelf.proofs.OrderLemmas as shown
use Rattle.shelf.proofs.order_laws.numbers_never_fall.Goals as goal

pub returns : goal.returns
returns g c = shown.numbers_never_fall
