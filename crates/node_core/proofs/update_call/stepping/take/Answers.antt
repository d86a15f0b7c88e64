use Rattle.std.proofs.Common.{◌≡◌, refl}
use Rattle.shelf.specs.declared.answers.Want.TheVariants as Want
use Rattle.step_table.specs.Calls.{Update}
use Rattle.node_core.proofs.update_call.stepping.take.Goals as goal

pub returns-in-Ok-Initialise-clause-steps : goal.returns-in-Ok-Initialise-clause-steps
returns-in-Ok-Initialise-clause-steps g c = rw c.in-Ok-Initialise.field-0-is at c.in-Ok-Initialise.ensures.ok (Update c.args.edit) refl

pub returns-in-Ok-Held-clause-steps : goal.returns-in-Ok-Held-clause-steps
returns-in-Ok-Held-clause-steps g c = rw c.in-Ok-Held.field-0-is at c.in-Ok-Held.ensures.ok (Update c.args.edit) refl

pub returns-in-Ok-Blocked-clause-steps : goal.returns-in-Ok-Blocked-clause-steps
returns-in-Ok-Blocked-clause-steps g c = rw c.in-Ok-Blocked.field-0-is at c.in-Ok-Blocked.ensures.ok (Update c.args.edit) refl

pub unreachable-requires : goal.unreachable-requires
unreachable-requires g c = let reads : Want.Update ≡ Want.Read = c.in-Ok-Unlocked.ensures.unlocked c.in-Ok-Unlocked.field-0-is in cc

pub returns-in-Err-clause-steps : goal.returns-in-Err-clause-steps
returns-in-Err-clause-steps g c = rw c.as_update_error.ensures (c.in-Err.ensures.err (Update c.args.edit) refl)
