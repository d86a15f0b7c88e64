use Rattle.script_lang.proofs.Decided.{decided}
use Rattle.script_lang.proofs.laws.others_have_a_fault.Goals as goal

pub returns : goal.returns
returns c = decided
