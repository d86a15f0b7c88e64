use Rattle.prefs_tool.proofs.ReplayCauses.{others_are_refused}
use Rattle.prefs_tool.proofs.laws.other_bytes_are_refused.Goals as goal

pub returns : goal.returns
returns c status source source_after sink sink_after replayed sound none = others_are_refused source source_after sink sink_after sound status replayed none
