use Rattle.node_core.proofs.SparingLemmas.{turn_spares}
use Rattle.node_core.proofs.laws.turns_spare_other_calls.Goals as goal

pub returns : goal.returns
returns g c = λ codec s t gave other it knows others apart. turn_spares _ s t gave it knows other apart others
