-- What the transforms of a store mean. It is fixed by their type, so it is no part of a store, and needs no codec.
use Rattle.store_traits.specs.declared.applied.Applied.{Applied}

pub record Meanings (V T : Type 0) : Type 0 where
  -- what a transform makes of a value
  pub after : T → V → Applied V
