use Rattle.shelf.specs.Rules.{rules_of}
use Rattle.step_table.proofs.OwnersAlive.{others_live, owner_stays_alive}
use Rattle.step_table.proofs.laws.owners_are_alive.Goals as goal

pub returns : goal.returns
returns g c =
    record {
      own =
          λ codec s. owner_stays_alive (rules_of g.T.Transform.after g.T.Transform.weight_of (g.C.Codec.encoded codec) (g.C.Codec.reads codec) (g.C.Codec.default_of codec)) s;
      others =
          λ codec s t gave other turn changes. others_live (rules_of g.T.Transform.after g.T.Transform.weight_of (g.C.Codec.encoded codec) (g.C.Codec.reads codec) (g.C.Codec.default_of codec)) s t gave turn changes other;
    }
