-- A statement with a test of it: the test is true exactly where the statement holds.
use Rattle.std.specs.Prelude.{Bool, Decides}

pub record Decided (P : Type 0) : Type 0 where
  pub test : Bool
  pub law : Decides test P
