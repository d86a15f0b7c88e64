use Rattle.shelf.specs.Rules.{rules_of}
use Rattle.step_table.proofs.Applying.{version_counts}
use Rattle.step_table.proofs.laws.versions_count_raises.Goals as goal

pub returns : goal.returns
returns g c =
    λ codec s. version_counts (rules_of g.T.Transform.after g.T.Transform.weight_of (g.C.Codec.encoded codec) (g.C.Codec.reads codec) (g.C.Codec.default_of codec)) s
