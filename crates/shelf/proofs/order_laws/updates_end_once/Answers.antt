use Rattle.shelf.proofs.OrderLemmas as shown
use Rattle.shelf.proofs.order_laws.updates_end_once.Goals as goal

pub returns : goal.returns
returns g c = shown.updates_end_once
