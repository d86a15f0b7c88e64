use Rattle.shelf.proofs.LegalTest.{lawful}
use Rattle.script_lang.proofs.EditTests.{one_map}
use Rattle.script_lang.proofs.truth.truth_tests.histories_have_tests.Goals as goal

pub returns : goal.returns
returns c = λ m s list. lawful one_map m s list
