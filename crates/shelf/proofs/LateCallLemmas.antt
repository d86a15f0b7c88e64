-- A call whose update stands already: what may be its next entry, which is its last one.
use Rattle.std.proofs.Common.{◌≡◌, true, false, List, refl}
use Rattle.std.specs.List.{list_any}
use Rattle.store_traits.specs.declared.ids.CallId.{CallId}
use Rattle.hist_journal.specs.declared.device.Device.TheVariants.{Folder}
use Rattle.hist_journal.specs.declared.seen.EntrySeen.{EntrySeen}
use Rattle.hist_journal.specs.declared.seen.KindSeen.{KindSeen}
use Rattle.hist_journal.specs.declared.seen.KindSeen.TheVariants.{Synced, Fault}
use Rattle.hist_journal.specs.Nodes.{is_dead}
use Rattle.shelf.specs.declared.store.Store.{Store}
use Rattle.shelf.specs.CallOrder.{KeepsOrder, is_ended_update, is_later}
use Rattle.shelf.specs.Entries.{some_entry, is_fault_or_death, is_own, is_update_end}
use Rattle.shelf.specs.Legal.{Fits}
use Rattle.shelf.specs.Meanings.{Meanings}
use Rattle.shelf.specs.ShelfTurns.{FaultFits}
use Rattle.shelf.proofs.Bools.{never}

module _ {V T : Type 0} (call : CallId) where
  -- its node lives, no later call of its client has an entry, neither a Fault nor a Death of it stands, and nothing of it stands behind its update
  pub record EndsOn (list : List (EntrySeen V T)) : Type 0 where
    pub lives : is_dead call.node list ≡ false
    pub numbers : list_any (is_later call) list ≡ false
    pub unended : list_any (is_own is_fault_or_death call) list ≡ false
    pub first : some_entry (is_ended_update call) list ≡ false

  ends_in_order : (list : List (EntrySeen V T)) (last : KindSeen V T) → EndsOn list → is_update_end last ≡ true → KeepsOrder list (record { who = call; kind = last })
  ends_in_order list last e ends = record { numbers = e.numbers; goes_on = e.unended; update = λ has. record { ends = ends; first = e.first } }

  module _ {M : Type 0} (m : Meanings V T) (s : Store V M) (list : List (EntrySeen V T)) (e : EndsOn list) where
    pub late_synced_fits : Fits m s list (record { who = call; kind = Synced })
    late_synced_fits = record { value = tt; raised = never; lifetimes = record { lives = e.lives; named = tt }; order = ends_in_order list Synced e refl; readiness = tt; settings = tt; counts = tt }

    pub late_fault : FaultFits m s call list
    late_fault =
        λ count rose.
        record { value = tt; raised = never; lifetimes = record { lives = e.lives; named = tt }; order = ends_in_order list (Fault Folder count) e refl; readiness = tt; settings = tt; counts = rose }
