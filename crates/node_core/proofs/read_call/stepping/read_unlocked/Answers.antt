use Rattle.std.proofs.Common.{refl}
use Rattle.shelf.proofs.GoingOn.{fault_fits}
use Rattle.step_table.specs.Calls.{ServeUnlocked}
use Rattle.node_core.proofs.EarlyLemmas.{early_goes_on}
use Rattle.node_core.proofs.read_call.stepping.read_unlocked.Goals as goal

pub read_and_free-requires-clause-lawful : goal.read_and_free-requires-clause-lawful
read_and_free-requires-clause-lawful g c = λ told. let k = c.requires.ready.knows in fault_fits _ _ _ _ (early_goes_on _ _ k.entries c.requires.lives k.numbers)

pub returns-clause-steps : goal.returns-clause-steps
returns-clause-steps g c = rw c.ended.ensures (c.read_and_free.ensures.ends ServeUnlocked refl)
