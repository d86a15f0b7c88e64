-- There is a new client for each of the nodes so far.
use Rattle.std.proofs.Common.{take}
use Rattle.replay_run.specs.NewClients.{AreNew}
use Rattle.replay_run.proofs.running_session.opening.new_clients.Given as goal

abbrev pub invariant-loop-place : goal.invariant-loop-place
invariant-loop-place l = AreNew (take l.place l.homes) l.clients.items
