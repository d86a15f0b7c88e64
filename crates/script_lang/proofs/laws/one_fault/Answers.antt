use Rattle.script_lang.proofs.ScriptLaws.{one_fault}
use Rattle.script_lang.proofs.laws.one_fault.Goals as goal

pub returns : goal.returns
returns c = one_fault
