-- What has reached a bound of a store, or passes it.
use Rattle.std.specs.Prelude.{◌≡◌, ◌⊎◌, ◌<◌, ◌≤◌, ◌-◌, ◌^◌, ℕ, min, List, length}
use Rattle.hist_journal.specs.declared.seen.EntrySeen.{EntrySeen}
use Rattle.shelf.specs.declared.store.Store.{Store}
use Rattle.shelf.specs.Rules.{Rules, weight_at}

module _ {V T M : Type 0} (r : Rules V T) (s : Store V M) where
  -- the history has these numbers, and one has reached its bound
  pub record IsFull (entries weight : ℕ) (list : List (EntrySeen V T)) : Type 0 where
    pub entries_then : entries ≡ length list
    pub weight_then : weight ≡ weight_at r list
    pub bound : (s.limits.history.entries ≤ entries) ⊎ (s.limits.history.weight ≤ weight)

  -- the length of the value's text, at most 2^64 - 1, passes the limit
  pub record IsPastLimit (v : V) (len : ℕ) : Type 0 where
    pub is : len ≡ min (length (r.encoded v)) (2 ^ 64 - 1)
    pub past : s.limits.file < len
