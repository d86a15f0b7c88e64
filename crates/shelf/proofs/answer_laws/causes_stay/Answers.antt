use Rattle.shelf.specs.Rules.{rules_of}
use Rattle.shelf.proofs.CauseLemmas.{HasCause-more, HasReadCause-more}
use Rattle.shelf.proofs.answer_laws.causes_stay.Goals as goal

pub returns : goal.returns
returns g c =
    record {
      update = λ codec s. HasCause-more (rules_of g.T.Transform.after g.T.Transform.weight_of (g.C.Codec.encoded codec) (g.C.Codec.reads codec) (g.C.Codec.default_of codec)) s;
      read = λ codec s. HasReadCause-more (rules_of g.T.Transform.after g.T.Transform.weight_of (g.C.Codec.encoded codec) (g.C.Codec.reads codec) (g.C.Codec.default_of codec)) s;
    }
