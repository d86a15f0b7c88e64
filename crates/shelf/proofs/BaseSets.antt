-- What main reads as is told apart by equations.
use Rattle.std.proofs.Common.{◌≡◌, ◌⊎◌, inl, inr, ℕ, Option, Some, None, refl}
use Rattle.std.specs.Coded.{code_by, coded⊎, coded_ℕ, coded_option}
use Rattle.hist_journal.specs.declared.seen.BaseSeen.{BaseSeen}
use Rattle.hist_journal.specs.declared.seen.BaseSeen.TheVariants.{Held, Corrupt, TooLong}
use base.Stored.{Coded-set, Coded}

base_to : {V : Type 0} → BaseSeen V → V ⊎ Option ℕ
base_to (Held v) = inl v
base_to Corrupt = inr None
base_to (TooLong len) = inr (Some len)

base_from : {V : Type 0} → V ⊎ Option ℕ → BaseSeen V
base_from (inl v) = Held v
base_from (inr None) = Corrupt
base_from (inr (Some len)) = TooLong len

base_same : {V : Type 0} (b : BaseSeen V) → base_from (base_to b) ≡ b
unfolding base_to base_from
base_same (Held v) = refl
base_same Corrupt = refl
base_same (TooLong len) = refl

pub base_set : {V : Type 0} → Coded V → IsSet (BaseSeen V)
base_set {V} c = Coded-set (code_by (V ⊎ Option ℕ) (coded⊎ c (coded_option coded_ℕ)) base_to base_from base_same)
