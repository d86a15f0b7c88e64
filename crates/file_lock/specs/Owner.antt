-- The owner of a lock.
use Rattle.std.specs.Prelude.{◌≢◌, ◌==◌, Option, Some, None, if◌then◌else◌}
use Rattle.store_traits.specs.declared.ids.CallId.{CallId}
use Rattle.store_traits.specs.declared.ids.NodeId.{NodeId}

-- a call other than this one owns the lock
abbrev pub IsAnother : Option CallId → CallId → Type 0
IsAnother None call = ⊥
IsAnother (Some owner) call = owner ≢ call

-- the owner once a node's calls own nothing
abbrev pub freed_node : NodeId → Option CallId → Option CallId
freed_node node None = None
freed_node node (Some owner) = if owner.node.0 == node.0 then None else Some owner
