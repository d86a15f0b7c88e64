use Rattle.std.proofs.Common.{arith}
use Rattle.std.proofs.lemmas.Grind.{common_steps}
use Rattle.wire_codec.proofs.open_groups.OpenGroups.is_full.Goals as goal

-- for must-fail hundredth_group_refused
pub returns-clause-full : goal.returns-clause-full
returns-clause-full c = grind (arith, common_steps)
