use Rattle.script_lang.proofs.KeepsLemmas.{script_keeps}
use Rattle.script_lang.proofs.laws.scripts_keep_their_rules.Goals as goal

pub returns : goal.returns
returns c = script_keeps
