use Rattle.shelf.proofs.OrderLemmas as shown
use Rattle.shelf.proofs.order_laws.changes_are_raised.Goals as goal

pub returns : goal.returns
returns g c = shown.changes_are_raised
