use Rattle.shelf.specs.Rules.{rules_of}
use Rattle.step_table.proofs.Applying.{dead_turn_changes_nothing, ended_is_gone, ended_owns_nothing}
use Rattle.step_table.proofs.laws.ended_calls_own_nothing.Goals as goal

pub returns : goal.returns
returns g c =
    record {
      ended =
          λ codec s. ended_is_gone (rules_of g.T.Transform.after g.T.Transform.weight_of (g.C.Codec.encoded codec) (g.C.Codec.reads codec) (g.C.Codec.default_of codec)) s;
      alive =
          λ codec s. ended_owns_nothing (rules_of g.T.Transform.after g.T.Transform.weight_of (g.C.Codec.encoded codec) (g.C.Codec.reads codec) (g.C.Codec.default_of codec)) s;
      dead =
          λ codec s t gave turn died. (let it = dead_turn_changes_nothing (rules_of g.T.Transform.after g.T.Transform.weight_of (g.C.Codec.encoded codec) (g.C.Codec.reads codec) (g.C.Codec.default_of codec)) s t gave turn died in
          (it.world, it.gone));
    }
