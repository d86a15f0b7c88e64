-- What a source and a sink in memory stand for, which of their calls fail, and what fits.
use Rattle.std.specs.Prelude.{ℕ, ◌≡◌, ◌-◌, ◌==◌, ◌&&◌, ◌||◌, min, nat_lt, Bool, List, length, if◌then◌else◌, is_err, IfOk, Result}
use Rattle.std.specs.List.{list_any}
use Rattle.store_traits.specs.Faults.{one_more}

-- ---- which calls fail

-- the numbers of the calls that fail, which count from 1; how many calls were made; and the count of faults
pub record PlanSeen : Type 0 where
  pub failing : List ℕ
  pub calls : ℕ
  pub faults : ℕ

-- no call was made yet
abbrev pub fresh_plan : List ℕ → PlanSeen
fresh_plan failing = record { failing = failing; calls = 0; faults = 0 }

-- whether the next call is one of those
abbrev pub is_planned : PlanSeen → Bool
is_planned plan = list_any (λ number. number == one_more plan.calls) plan.failing

-- the plan once one more call was made
abbrev pub after_call : Bool → PlanSeen → PlanSeen
after_call has_failed plan = record plan { calls = one_more plan.calls; faults = (if has_failed then one_more plan.faults else plan.faults) }

-- ---- sources

-- the bytes that are left, and which reads fail
pub record MemSourceSeen : Type 0 where
  pub left : List ℕ
  pub plan : PlanSeen

-- A read fails exactly where it is planned to. Else it takes all that is left and there is room for.
pub record ReadsMemory {E : Type 0} (room : ℕ) (old : MemSourceSeen) (result : Result ℕ E) (new : MemSourceSeen) : Type 0 where
  pub failed : is_err result ≡ is_planned old.plan
  pub plan : new.plan ≡ after_call (is_err result) old.plan
  pub taken : IfOk result (λ taken. taken ≡ min (length old.left) room)

-- ---- sinks

-- the bytes that it holds, how many it has room for in all, and which writes fail
pub record MemSinkSeen : Type 0 where
  pub held : List ℕ
  pub room : ℕ
  pub plan : PlanSeen

-- how much of a piece fits
abbrev pub fitting : MemSinkSeen → List ℕ → ℕ
fitting sink piece = min (length piece) (sink.room - length sink.held)

-- whether the room is used up, and there is something to write
abbrev pub is_full : MemSinkSeen → List ℕ → Bool
is_full sink piece = (fitting sink piece == 0) && nat_lt 0 (length piece)

-- A write fails exactly where it is planned to or the room is used up. Else it takes what fits.
pub record WritesMemory {E : Type 0} (piece : List ℕ) (old : MemSinkSeen) (result : Result ℕ E) (new : MemSinkSeen) : Type 0 where
  pub failed : is_err result ≡ (is_planned old.plan || is_full old piece)
  pub plan : new.plan ≡ after_call (is_err result) old.plan
  pub room : new.room ≡ old.room
  pub taken : IfOk result (λ taken. taken ≡ fitting old piece)
