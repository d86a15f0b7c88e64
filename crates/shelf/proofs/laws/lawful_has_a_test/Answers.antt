use Rattle.shelf.proofs.LegalTest.{lawful}
use Rattle.shelf.proofs.laws.lawful_has_a_test.Goals as goal

pub returns : goal.returns
returns g c = λ same m s list. lawful same m s list
