use Rattle.script_lang.proofs.GoodTest.{truth_tests}
use Rattle.replay_run.specs.PrefsBasis.{prefs_basis}
use Rattle.replay_run.proofs.laws.truth_has_tests_of_settings.Goals as goal

pub returns : goal.returns
returns c = truth_tests prefs_basis
