-- The entries of a sync of the folder.
use Rattle.std.proofs.Common.{◌≡◌, ◌-◌, ◌^◌, min, true, Option, Some, None, refl, arith}
use Rattle.std.specs.List.{list_all}
use Rattle.hist_journal.specs.Folds.{kind_weight}
use Rattle.shelf.specs.Endings.{synced_kinds, synced_weight}
use Rattle.shelf.specs.Rules.{Rules}
use Rattle.shelf.proofs.KeptLemmas.{is_plain, weight_of_kinds}

pub synced_plain : (V : Type 0) {T : Type 0} (same : Option T) → list_all (is_plain {V = V} {T = T}) (synced_kinds same) ≡ true
synced_plain V None = refl
synced_plain V (Some t) = refl

pub synced_weighs : {V T : Type 0} (r : Rules V T) (same : Option T) → min (synced_weight r.weight same) (2 ^ 64 - 1) ≡ min (weight_of_kinds r (synced_kinds same)) (2 ^ 64 - 1)
unfolding kind_weight
synced_weighs r None = refl
synced_weighs r (Some t) = omega arith
