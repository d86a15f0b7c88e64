-- A device's count of faults, and what a call does to it.
use Rattle.std.specs.Prelude.{ℕ, ◌≡◌, ◌+◌, ◌-◌, ◌^◌, ◌<◌, ◌≤◌, ◌⊎◌, min, Bool}
use Rattle.std.specs.Bool.{OnFalse, OnTrue}

-- one more, but for a count at its end
abbrev pub one_more : ℕ → ℕ
one_more count = min (count + 1) (2 ^ 64 - 1)

-- a count rose: it is greater, or stands at its end
abbrev pub Rose : ℕ → ℕ → Type 0
Rose before now = (before < now) ⊎ (now ≡ 2 ^ 64 - 1)

-- a count rose where a call failed, and is as it was where none did
pub record Counts (has_failed : Bool) (before now : ℕ) : Type 0 where
  pub later : before ≤ now
  pub cause : OnTrue has_failed (Rose before now)
  pub kept : OnFalse has_failed (now ≡ before)
