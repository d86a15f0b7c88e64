use Rattle.shelf.proofs.OrderLemmas as shown
use Rattle.shelf.proofs.order_laws.counts_rise.Goals as goal

pub returns : goal.returns
returns g c = shown.counts_rise
