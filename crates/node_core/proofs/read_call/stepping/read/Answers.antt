use Rattle.std.proofs.Common.{refl}
use Rattle.shelf.proofs.GoingOn.{fault_fits}
use Rattle.step_table.specs.Calls.{Serve}
use Rattle.node_core.proofs.EarlyLemmas.{early_goes_on}
use Rattle.node_core.proofs.read_call.stepping.read.Goals as goal

pub read_and_free-requires-clause-lawful : goal.read_and_free-requires-clause-lawful
read_and_free-requires-clause-lawful g c = λ told. let k = c.requires.ready.knows in fault_fits _ _ _ _ (early_goes_on _ _ k.entries c.requires.lives k.numbers)

pub returns-in-Err-clause-steps : goal.returns-in-Err-clause-steps
returns-in-Err-clause-steps g c = rw c.ended.ensures (c.in-Err.ensures.ends Serve refl)

pub returns-in-Ok-try_clone-clause-steps : goal.returns-in-Ok-try_clone-clause-steps
returns-in-Ok-try_clone-clause-steps g c = rw c.ended-in-Ok-try_clone.ensures (c.in-Ok.ensures.ends Serve refl)

pub returns-in-Err-try_clone-clause-steps : goal.returns-in-Err-try_clone-clause-steps
returns-in-Err-try_clone-clause-steps g c = rw c.ended-in-Err-try_clone.ensures (c.in-Ok.ensures.lacks_memory Serve refl)
