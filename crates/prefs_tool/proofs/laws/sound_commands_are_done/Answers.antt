use Rattle.prefs_tool.proofs.CompleteLemmas.{is_done}
use Rattle.prefs_tool.proofs.laws.sound_commands_are_done.Goals as goal

pub returns : goal.returns
returns c = is_done
