use Rattle.shelf.proofs.PendingLemmas.{change_is_pending, open_iff_pending}
use Rattle.shelf.proofs.laws.open_is_pending.Goals as goal

pub returns : goal.returns
returns g c = record { change = change_is_pending; exactly = open_iff_pending }
