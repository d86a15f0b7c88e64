use Rattle.std.proofs.Common.{subst}
use Rattle.replay_run.specs.declared.running.Running.{Running}
use Rattle.replay_run.specs.RunningSteps.{CallMayStep}
use Rattle.replay_run.proofs.running.Running.step.Goals as goal

pub step-requires-clause-may : goal.step-requires-clause-may
step-requires-clause-may c = subst (λ (call : Running). CallMayStep call c.args.shelf.now) c.in-Update.is c.requires.may

pub step-requires-in-Read-clause-may : goal.step-requires-in-Read-clause-may
step-requires-in-Read-clause-may c = subst (λ (call : Running). CallMayStep call c.args.shelf.now) c.in-Read.is c.requires.may
