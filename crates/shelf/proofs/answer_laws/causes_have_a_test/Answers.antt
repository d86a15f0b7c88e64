use Rattle.shelf.proofs.CauseTests.{read_cause, update_cause}
use Rattle.shelf.proofs.answer_laws.causes_have_a_test.Goals as goal

pub returns : goal.returns
returns g c =
    record {
      update = λ same codec s shown call edit err list. update_cause same _ s shown call edit err list;
      read = λ same codec s shown call err list. read_cause same _ s shown call err list;
    }
