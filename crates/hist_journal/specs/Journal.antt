-- What contracts see of a journal.
use Rattle.std.specs.Prelude.{ℕ, ◌≡◌, ◌⊎◌, ◌<◌, ◌≤◌, List, length}
use Rattle.hist_journal.specs.declared.bounds.Bounds.{Bounds}
use Rattle.hist_journal.specs.declared.seen.BaseSeen.{BaseSeen}
use Rattle.hist_journal.specs.declared.seen.EntrySeen.{EntrySeen}
use Rattle.hist_journal.specs.declared.reserve_error.ReserveError.{ReserveError}
use Rattle.hist_journal.specs.declared.reserve_error.ReserveError.TheVariants.{HistoryFull, NoMemory}

-- `room` is how many entries can be added without memory
pub record JournalSeen (V T : Type 0) : Type 0 where
  pub base : BaseSeen V
  pub bounds : Bounds
  pub list : List (EntrySeen V T)
  pub weight : ℕ
  pub room : ℕ

module _ {V T : Type 0} where
  -- neither the entries nor the weight have reached their bound
  pub record IsOpen (j : JournalSeen V T) : Type 0 where
    pub entries : length j.list < j.bounds.entries
    pub weight : j.weight < j.bounds.weight

  -- why no room is made: the history is full, with these numbers, or there was no memory and it is not
  abbrev pub Refuses : JournalSeen V T → ReserveError → Type 0
  Refuses j (HistoryFull entries weight) =
      (entries ≡ length j.list) × (weight ≡ j.weight) × ((j.bounds.entries ≤ entries) ⊎ (j.bounds.weight ≤ weight))
  Refuses j NoMemory = IsOpen j

  -- all but the room is as before
  pub record KeepsHistory (old new : JournalSeen V T) : Type 0 where
    pub base : new.base ≡ old.base
    pub bounds : new.bounds ≡ old.bounds
    pub list : new.list ≡ old.list
    pub weight : new.weight ≡ old.weight
