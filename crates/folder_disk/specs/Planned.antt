-- Planned failures and the calls made so far.
use Rattle.std.specs.Prelude.{ℕ, ◌+◌, List, [], ◌∷◌, nat_lt, if◌then◌else◌}
use Rattle.folder_disk.specs.declared.call.Planned.{Planned}
use Rattle.folder_disk.specs.declared.call.CallCounts.{CallCounts}
use Rattle.folder_disk.specs.Due.{count_of}

-- no call was made yet
abbrev pub no_calls : CallCounts
no_calls = record { read_main = 0; create = 0; append = 0; sync_scratch = 0; rename = 0; sync_folder = 0 }

-- 1 for a planned failure of a call that is still to come
abbrev pub is_left : CallCounts → Planned → ℕ
is_left made p = if nat_lt (count_of made p.call) p.number then 1 else 0

-- how many planned failures are of calls that are still to come
unfoldable pub left_to_strike : CallCounts → List Planned → ℕ
left_to_strike made [] = 0
left_to_strike made (p ∷ planned) = is_left made p + left_to_strike made planned
