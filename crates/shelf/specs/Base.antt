-- What main reads as at the start of a session.
use Rattle.std.specs.Prelude.{◌≡◌, ◌<◌, ◌≤◌, ℕ, List, length, Option, Some, None}
use Rattle.hist_journal.specs.declared.seen.BaseSeen.{BaseSeen}
use Rattle.hist_journal.specs.declared.seen.BaseSeen.TheVariants.{Held, Corrupt, TooLong}
use Rattle.shelf.specs.declared.store.Store.{Store}

-- `reads` says which values bytes read as, and `absent` is what no file stands for
module _ {V : Type 0} (reads : List ℕ → V → Type 0) (absent : V) (limit : ℕ) where
  abbrev pub ReadsAs : Option (List ℕ) → BaseSeen V → Type 0
  ReadsAs None base = base ≡ Held absent
  ReadsAs (Some bytes) (Held v) = (length bytes ≤ limit) × reads bytes v
  ReadsAs (Some bytes) Corrupt = (length bytes ≤ limit) × ((v : V) → reads bytes v → ⊥)
  ReadsAs (Some bytes) (TooLong len) = (limit < length bytes) × (len ≡ length bytes)

-- the base of a store is what its main reads as
abbrev pub HasItsBase : {V M : Type 0} → (List ℕ → V → Type 0) → V → Store V M → Type 0
HasItsBase reads absent s = ReadsAs reads absent s.limits.file s.main s.base
