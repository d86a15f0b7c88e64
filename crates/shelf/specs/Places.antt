-- Entries of a history at their places, and what holds of a prefix of it.
use Rattle.std.specs.Prelude.{◌≡◌, ℕ, ◌+◌, ◌==◌, ◌&&◌, nat_le, Bool, true, false, List, ◌∷◌, ◌++◌, length}
use Rattle.std.specs.List.{list_any}
use Rattle.store_traits.specs.declared.ids.CallId.{CallId}
use Rattle.hist_journal.specs.declared.device.Device.{Device}
use Rattle.hist_journal.specs.declared.seen.EntrySeen.{EntrySeen}
use Rattle.hist_journal.specs.declared.seen.KindSeen.{KindSeen}
use Rattle.hist_journal.specs.declared.seen.KindSeen.TheVariants.{Fault}
use Rattle.shelf.specs.Entries.{is_any, is_own}
use Rattle.shelf.specs.FaultCounts.{is_device}

module _ {V T : Type 0} where
  abbrev pub is_fault_of : Device → KindSeen V T → Bool
  is_fault_of device (Fault failed count) = is_device device failed
  is_fault_of device other = false

  -- an entry of this call, or of an earlier one of the same client
  abbrev pub is_up_to : CallId → EntrySeen V T → Bool
  is_up_to call e = (call.client.0 == e.who.client.0) && nat_le e.who.number call.number

  -- the entry at this place, counted from 1, passes the test
  pub record StandsAt (passes : EntrySeen V T → Bool) (place : ℕ) (list : List (EntrySeen V T)) : Type 0 where
    pub before : List (EntrySeen V T)
    pub entry : EntrySeen V T
    pub behind : List (EntrySeen V T)
    pub is : list ≡ before ++ entry ∷ behind
    pub counted : place ≡ length before + 1
    pub passed : passes entry ≡ true

  -- two entries of the call, of such kinds, with none of it between them
  pub record Follows (is_first is_second : KindSeen V T → Bool) (call : CallId) (list : List (EntrySeen V T)) : Type 0 where
    pub before : List (EntrySeen V T)
    pub first : EntrySeen V T
    pub between : List (EntrySeen V T)
    pub second : EntrySeen V T
    pub behind : List (EntrySeen V T)
    pub is : list ≡ before ++ first ∷ (between ++ second ∷ behind)
    pub opens : is_own is_first call first ≡ true
    pub next : list_any (is_own is_any call) between ≡ false
    pub closes : is_own is_second call second ≡ true

  -- this holds of a prefix of the list
  pub record HasFront (Holds : List (EntrySeen V T) → Type 0) (list : List (EntrySeen V T)) : Type 0 where
    pub front : List (EntrySeen V T)
    pub back : List (EntrySeen V T)
    pub is : list ≡ front ++ back
    pub holds : Holds front
