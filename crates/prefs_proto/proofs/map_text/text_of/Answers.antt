use Rattle.std.proofs.Common.{arith}
use Rattle.std.proofs.lemmas.Grind.{common_steps}
use Rattle.prefs_proto.specs.Encoded.{encoded}
use Rattle.prefs_proto.proofs.map_text.text_of.Goals as goal

-- for must-fail first_entry_is_dropped
pub loop-pair-preserved : goal.loop-pair-preserved
unfolding encoded
loop-pair-preserved c = grind (arith, common_steps)
