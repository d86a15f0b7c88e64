use Rattle.script_lang.proofs.ScriptLaws.{one_script}
use Rattle.script_lang.proofs.laws.one_script.Goals as goal

pub returns : goal.returns
returns c = one_script
