-- The entries with which a sync of the folder is told.
use Rattle.std.specs.Prelude.{◌∷◌, [], ℕ, List, Option, Some, None}
use Rattle.hist_journal.specs.declared.seen.KindSeen.{KindSeen}
use Rattle.hist_journal.specs.declared.seen.KindSeen.TheVariants.{Same, Synced}

-- a Same where nothing was written, then a Synced
abbrev pub synced_kinds : {V T : Type 0} → Option T → List (KindSeen V T)
synced_kinds None = Synced ∷ []
synced_kinds (Some t) = Same t ∷ Synced ∷ []

-- what they weigh
abbrev pub synced_weight : {T : Type 0} → (T → ℕ) → Option T → ℕ
synced_weight weight None = 0
synced_weight weight (Some t) = weight t
