use Rattle.prefs_tool.proofs.OnePrint.{one_print}
use Rattle.prefs_tool.proofs.laws.scripts_have_one_print.Goals as goal

pub returns : goal.returns
returns c = one_print
