use Rattle.shelf.specs.Rules.{rules_of}
use Rattle.step_table.proofs.Waiting.{turn_waits, turn_has_to_wait}
use Rattle.step_table.proofs.laws.turns_wait_exactly.Goals as goal

pub returns : goal.returns
returns g c =
    record {
      blocked =
          λ codec s. turn_waits (rules_of g.T.Transform.after g.T.Transform.weight_of (g.C.Codec.encoded codec) (g.C.Codec.reads codec) (g.C.Codec.default_of codec)) s;
      exactly =
          λ codec s. turn_has_to_wait (rules_of g.T.Transform.after g.T.Transform.weight_of (g.C.Codec.encoded codec) (g.C.Codec.reads codec) (g.C.Codec.default_of codec)) s;
    }
