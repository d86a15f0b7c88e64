use Rattle.std.proofs.Common.{refl}
use Rattle.step_table.specs.Calls.{Read}
use Rattle.node_core.proofs.read_call.stepping.take.Goals as goal

pub returns-in-Ok-Initialise-clause-steps : goal.returns-in-Ok-Initialise-clause-steps
returns-in-Ok-Initialise-clause-steps g c = rw c.in-Ok-Initialise.field-0-is at c.in-Ok-Initialise.ensures.ok Read refl

pub returns-in-Ok-Held-clause-steps : goal.returns-in-Ok-Held-clause-steps
returns-in-Ok-Held-clause-steps g c = rw c.in-Ok-Held.field-0-is at c.in-Ok-Held.ensures.ok Read refl

pub returns-in-Ok-Unlocked-clause-steps : goal.returns-in-Ok-Unlocked-clause-steps
returns-in-Ok-Unlocked-clause-steps g c = rw c.in-Ok-Unlocked.field-0-is at c.in-Ok-Unlocked.ensures.ok Read refl

pub returns-in-Ok-Blocked-clause-steps : goal.returns-in-Ok-Blocked-clause-steps
returns-in-Ok-Blocked-clause-steps g c = rw c.in-Ok-Blocked.field-0-is at c.in-Ok-Blocked.ensures.ok Read refl

pub returns-in-Err-clause-steps : goal.returns-in-Err-clause-steps
returns-in-Err-clause-steps g c = rw c.ended.ensures (c.in-Err.ensures.err Read refl)
