-- A store that has no value now had none at its start.
use Rattle.std.proofs.Common.{◌≡◌, ℕ, List, [], ◌∷◌}
use Rattle.store_traits.specs.declared.applied.Applied.{Applied}
use Rattle.store_traits.specs.declared.applied.Applied.TheVariants.{Changed, Refused}
use Rattle.hist_journal.specs.declared.seen.BaseSeen.{BaseSeen}
use Rattle.hist_journal.specs.declared.seen.BaseSeen.TheVariants.{Held, Corrupt, TooLong}
use Rattle.hist_journal.specs.declared.seen.EntrySeen.{EntrySeen}
use Rattle.hist_journal.specs.declared.seen.KindSeen.{KindSeen}
use Rattle.hist_journal.specs.declared.seen.KindSeen.TheVariants.{Edit, Replace, Migrate}
use Rattle.hist_journal.specs.Folds.{applied_or, edited, value_after, value_of}

module _ {V T : Type 0} (after : T → V → Applied V) (unreadable : BaseSeen V) (no_value : (v : V) → Held v ≡ unreadable → ⊥) where
  applied_holds : (applied : Applied V) (old : V) → applied_or after applied old ≡ unreadable → ⊥
  unfolding applied_or
  applied_holds (Changed new) old is = no_value new is
  applied_holds (Refused code) old is = no_value old is

  edited_was : (edit : T) (base : BaseSeen V) → edited after edit base ≡ unreadable → base ≡ unreadable
  unfolding edited
  edited_was edit (Held v) is = absurd (applied_holds (after edit v) v is)
  edited_was edit Corrupt is = is
  edited_was edit (TooLong len) is = is

  after_was : (base : BaseSeen V) (kind : KindSeen V T) → value_after after base kind ≡ unreadable → base ≡ unreadable
  unfolding value_after
  after_was base (Edit edit) is = edited_was edit base is
  after_was base (Replace v) is = absurd (no_value v is)
  after_was base (Migrate names v) is = absurd (no_value v is)
  after_was base other is = is

  -- what no value is, was so from the start
  pub unreadable_from_start : (base : BaseSeen V) (list : List (EntrySeen V T)) → value_of after base list ≡ unreadable → base ≡ unreadable
  unfolding value_of
  unreadable_from_start base [] is = is
  unreadable_from_start base (e ∷ es) is = after_was base e.kind (unreadable_from_start (value_after after base e.kind) es is)

module _ {V T : Type 0} (after : T → V → Applied V) (base : BaseSeen V) (list : List (EntrySeen V T)) where
  -- a corrupt file
  pub corrupt_from_start : value_of after base list ≡ Corrupt → base ≡ Corrupt
  corrupt_from_start is = unreadable_from_start after Corrupt (λ v same. cc) base list is

  -- a file past the limit
  pub too_long_from_start : (len : ℕ) → value_of after base list ≡ TooLong len → base ≡ TooLong len
  too_long_from_start len is = unreadable_from_start after (TooLong len) (λ v same. cc) base list is
