use Rattle.std.proofs.Common.{refl}
use Rattle.store_tests.proofs.AloneLemmas.{free_at_its_end}
use Rattle.store_tests.proofs.GoingLemmas.{tells_more, tells_nothing}
use Rattle.store_tests.proofs.alone.bring_back.Goals as goal

pub returns-clause-free : goal.returns-clause-free
returns-clause-free g c = free_at_its_end _ _ _ _ c.restart.ensures.steps.turn c.requires.free

pub returns-clause-adds : goal.returns-clause-adds
returns-clause-adds g c = tells_more _ _ _ _ c.restart.ensures.steps.turn _ _ refl (tells_nothing _ _)
