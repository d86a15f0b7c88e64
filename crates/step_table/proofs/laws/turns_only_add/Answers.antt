use Rattle.shelf.specs.Rules.{rules_of}
use Rattle.step_table.proofs.Applying.{turn_adds}
use Rattle.step_table.proofs.laws.turns_only_add.Goals as goal

pub returns : goal.returns
returns g c =
    λ codec s. turn_adds (rules_of g.T.Transform.after g.T.Transform.weight_of (g.C.Codec.encoded codec) (g.C.Codec.reads codec) (g.C.Codec.default_of codec)) s
