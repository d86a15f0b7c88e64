-- The shelf has the nodes with the numbers so far.
use Rattle.std.proofs.Common.{◌≡◌}
use Rattle.shelf.specs.ShelfSeen.{shelf_seen}
use Rattle.replay_run.specs.ShelfOpens.{first_nodes, with_nodes}
use Rattle.replay_run.proofs.running_session.opening.add_nodes.Given as goal

abbrev pub invariant-loop-number : goal.invariant-loop-number
invariant-loop-number l = shelf_seen l.shelf ≡ with_nodes (shelf_seen l.initial.shelf) (first_nodes l.number)
