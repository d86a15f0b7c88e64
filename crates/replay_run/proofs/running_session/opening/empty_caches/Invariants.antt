-- The caches so far keep nothing.
use Rattle.std.proofs.Common.{◌≡◌, map, None}
use Rattle.value_cache.specs.Cached.{kept_seen}
use Rattle.replay_run.specs.ShelfOpens.{first_nodes}
use Rattle.replay_run.proofs.running_session.opening.empty_caches.Given as goal

abbrev pub invariant-loop-node : goal.invariant-loop-node
invariant-loop-node l = map kept_seen l.caches.items ≡ map (λ node. None) (first_nodes l._node)
