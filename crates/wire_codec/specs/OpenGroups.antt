-- The open groups of a message, the innermost first.
use Rattle.std.specs.Prelude.{◌≡◌, List, ◌∷◌}
use Rattle.wire_codec.specs.declared.open_group.OpenGroup.{OpenGroup}

pub record HasInnermost (groups : List OpenGroup) (group : OpenGroup) : Type 0 where
  pub outer : List OpenGroup
  pub parts : groups ≡ group ∷ outer

pub record LosesInnermost (old new : List OpenGroup) : Type 0 where
  pub group : OpenGroup
  pub parts : old ≡ group ∷ new
