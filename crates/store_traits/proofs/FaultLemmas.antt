-- Counts of faults over several calls.
use Rattle.std.proofs.Common.{◌≡◌, ℕ, Bool, false, refl, subst, arith}
use Rattle.store_traits.specs.Faults.{Counts}

-- no call was made
pub counts_none : (count : ℕ) → Counts false count count
counts_none count = record { later = omega arith; cause = tt; kept = refl }

-- a count since an earlier moment, if no call failed between
pub counts_since : (has_failed : Bool) (before since now : ℕ) → since ≡ before → Counts has_failed since now → Counts has_failed before now
counts_since has_failed before since now same counts = subst (λ (count : ℕ). Counts has_failed count now) same counts
