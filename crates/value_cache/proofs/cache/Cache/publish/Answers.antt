use Rattle.std.proofs.Common.{arith}
use Rattle.std.proofs.lemmas.Grind.{common_steps}
use Rattle.value_cache.proofs.cache.Cache.publish.Goals as goal

-- for must-fail smaller_version_kept, replaced_at_equal_versions
pub returns-then-is_none_or : goal.returns-then-is_none_or
returns-then-is_none_or c = grind (arith, common_steps)
