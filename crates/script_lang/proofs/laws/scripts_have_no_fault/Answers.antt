use Rattle.script_lang.proofs.ScriptLaws.{no_fault}
use Rattle.script_lang.proofs.laws.scripts_have_no_fault.Goals as goal

pub returns : goal.returns
returns c = no_fault
