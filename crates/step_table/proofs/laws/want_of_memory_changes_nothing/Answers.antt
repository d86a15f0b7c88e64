use Rattle.shelf.specs.Rules.{rules_of}
use Rattle.step_table.proofs.Waiting.{no_memory_untouched}
use Rattle.step_table.proofs.laws.want_of_memory_changes_nothing.Goals as goal

pub returns : goal.returns
returns g c =
    λ codec s. no_memory_untouched (rules_of g.T.Transform.after g.T.Transform.weight_of (g.C.Codec.encoded codec) (g.C.Codec.reads codec) (g.C.Codec.default_of codec)) s
