-- The folder of a script's session fails as the plan says.
use Rattle.std.proofs.Common.{◌≡◌, ◌+◌, ◌-◌, ◌^◌, min, ℕ, List, [], Option, Some, None, length, refl, arith}
use Rattle.folder_disk.specs.Due.{in_order}
use Rattle.folder_disk.specs.FuseFolder.{behind_fuse, with_fuse}
use Rattle.folder_disk.specs.MemFolder.{fresh_tally}
use Rattle.folder_disk.specs.Planned.{no_calls}
use Rattle.folder_disk.specs.Tally.{most_of}
use Rattle.folder_disk.specs.declared.call.Planned.{Planned}
use Rattle.folder_disk.proofs.OrderLemmas.{length_in_order}
use Rattle.script_lang.specs.Chronicle.{tally_of}
use Rattle.script_lang.specs.declared.plan.session_plan.SessionPlan.{SessionPlan}

-- a new folder in memory behind a new fuse
fused_by : (fuse : Option ℕ) (faults : List Planned)
    → behind_fuse fuse 0 (fresh_tally 0 faults)
    ≡ record { count = 0; most = most_of 0 (record { planned = in_order faults; made = no_calls; fuses = with_fuse fuse [] }); due = record { planned = in_order faults; made = no_calls; fuses = with_fuse fuse [] } }
fused_by None faults =
    let many : min (min (0 + length faults) (2 ^ 64 - 1) + 0) (2 ^ 64 - 1) ≡ min (0 + length (in_order faults)) (2 ^ 64 - 1) = rw (length_in_order faults) (omega arith) in
    rw many refl
fused_by (Some left) faults = refl

pub fused : (plan : SessionPlan) (faults : List Planned) → faults ≡ plan.folder_faults → behind_fuse plan.fuse 0 (fresh_tally 0 faults) ≡ tally_of 0 plan
fused plan faults same = rw same (fused_by plan.fuse plan.folder_faults)
