use Rattle.std.proofs.Common.{◌∙◌}
use Rattle.store_tests.proofs.UpdateLemmas.{fault_initialised}
use Rattle.store_tests.proofs.single_update.hold.Goals as goal

pub read_main-requires : goal.read_main-requires
read_main-requires g c = record { lawful = λ told. fault_initialised _ _ _ _ (c.in-Held.ensures.row.after.list ∙ c.requires.list) }
