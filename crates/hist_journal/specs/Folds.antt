-- What a history comes to: its value, its edition, its raises, its weight, and main after it.
use Rattle.std.specs.Prelude.{ℕ, ◌==◌, List, [], ◌∷◌, Option, Some, count_by, sum_by, if◌then◌else◌}
use Rattle.store_traits.specs.declared.applied.Applied.{Applied}
use Rattle.store_traits.specs.declared.applied.Applied.TheVariants.{Changed, Refused}
use Rattle.hist_journal.specs.declared.seen.BaseSeen.{BaseSeen}
use Rattle.hist_journal.specs.declared.seen.BaseSeen.TheVariants.{Held, Corrupt, TooLong}
use Rattle.hist_journal.specs.declared.seen.EntrySeen.{EntrySeen}
use Rattle.hist_journal.specs.declared.seen.KindSeen.{KindSeen}
use Rattle.hist_journal.specs.declared.seen.KindSeen.TheVariants.{Edit, Same, Replace, Migrate}
use Rattle.hist_journal.specs.Kinds.{is_raise, is_change}

-- the number of value changes
unfoldable pub edition_of : {V T : Type 0} → List (EntrySeen V T) → ℕ
edition_of list = count_by (λ e. is_change e.kind) list

-- the number of Raise entries
unfoldable pub raises_of : {V T : Type 0} → List (EntrySeen V T) → ℕ
raises_of list = count_by (λ e. is_raise e.kind) list

-- `after` is what a transform makes of a value
module _ {V T : Type 0} (after : T → V → Applied V) where
  unfoldable pub applied_or : Applied V → V → BaseSeen V
  applied_or (Changed new) old = Held new
  applied_or (Refused code) old = Held old

  unfoldable pub edited : T → BaseSeen V → BaseSeen V
  edited t (Held v) = applied_or (after t v) v
  edited t Corrupt = Corrupt
  edited t (TooLong len) = TooLong len

  -- the value after one more entry
  unfoldable pub value_after : BaseSeen V → KindSeen V T → BaseSeen V
  value_after value (Edit t) = edited t value
  value_after value (Replace v) = Held v
  value_after value (Migrate names v) = Held v
  value_after value other = value

  -- the value after a history that begins with this one
  unfoldable pub value_of : BaseSeen V → List (EntrySeen V T) → BaseSeen V
  value_of value [] = value
  value_of value (e ∷ es) = value_of (value_after value e.kind) es

  unfoldable pub text_or : (V → List ℕ) → BaseSeen V → Option (List ℕ) → Option (List ℕ)
  text_or encoded (Held v) main = Some (encoded v)
  text_or encoded Corrupt main = main
  text_or encoded (TooLong len) main = main

  -- main after a history: as at the start where nothing changed it, else the text of the value
  unfoldable pub main_of : (V → List ℕ) → BaseSeen V → Option (List ℕ) → List (EntrySeen V T) → Option (List ℕ)
  main_of encoded base main list = if edition_of list == 0 then main else text_or encoded (value_of base list) main

-- `transform_weight` and `value_weight` are what a transform and a value weigh
module _ {V T : Type 0} (transform_weight : T → ℕ) (value_weight : V → ℕ) where
  unfoldable pub kind_weight : KindSeen V T → ℕ
  kind_weight (Edit t) = transform_weight t
  kind_weight (Same t) = transform_weight t
  kind_weight (Replace v) = value_weight v
  kind_weight (Migrate names v) = value_weight v
  kind_weight other = 0

  unfoldable pub weight_of : List (EntrySeen V T) → ℕ
  weight_of list = sum_by (λ e. kind_weight e.kind) list
