use Rattle.shelf.specs.Rules.{rules_of}
use Rattle.shelf.proofs.StoreLemmas.{cause_alike, read_cause_alike}
use Rattle.shelf.proofs.answer_laws.causes_by_the_start.Goals as goal

pub returns : goal.returns
returns g c =
    record {
      update = λ codec. cause_alike (rules_of g.T.Transform.after g.T.Transform.weight_of (g.C.Codec.encoded codec) (g.C.Codec.reads codec) (g.C.Codec.default_of codec));
      read = λ codec. read_cause_alike (rules_of g.T.Transform.after g.T.Transform.weight_of (g.C.Codec.encoded codec) (g.C.Codec.reads codec) (g.C.Codec.default_of codec));
    }
