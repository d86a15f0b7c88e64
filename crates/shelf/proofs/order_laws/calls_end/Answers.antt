use Rattle.shelf.proofs.OrderLemmas as shown
use Rattle.shelf.proofs.order_laws.calls_end.Goals as goal

pub returns : goal.returns
returns g c = shown.calls_end
