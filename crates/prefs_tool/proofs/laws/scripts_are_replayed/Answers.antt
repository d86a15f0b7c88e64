use Rattle.prefs_tool.proofs.ReplayCauses.{script_is_replayed}
use Rattle.prefs_tool.proofs.laws.scripts_are_replayed.Goals as goal

pub returns : goal.returns
returns c script status source source_after sink sink_after replayed sound is = script_is_replayed source source_after sink sink_after sound script status replayed is
