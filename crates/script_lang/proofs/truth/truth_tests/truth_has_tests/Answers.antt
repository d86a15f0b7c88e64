use Rattle.script_lang.specs.TruthExamples.{basis}
use Rattle.script_lang.proofs.ExampleReads.{example_reads}
use Rattle.script_lang.proofs.GoodTest.{rule_of, truth_tests}
use Rattle.script_lang.proofs.truth.truth_tests.truth_has_tests.Goals as goal

pub returns : goal.returns
returns c = record { reading = example_reads; truth = truth_tests basis example_reads; broken = λ rule script transcript breaks g. breaks (rule_of basis script transcript rule g) }
