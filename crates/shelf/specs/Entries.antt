-- Words on the entries of a history.
use Rattle.std.specs.Prelude.{Bool, true, false, ◌&&◌, ◌||◌, List, [], ◌∷◌, ◌++◌}
use Rattle.store_traits.specs.declared.ids.CallId.{CallId}
use Rattle.hist_journal.specs.declared.device.Device.TheVariants.{Folder}
use Rattle.hist_journal.specs.declared.seen.EntrySeen.{EntrySeen}
use Rattle.hist_journal.specs.declared.seen.KindSeen.{KindSeen}
use Rattle.hist_journal.specs.declared.seen.KindSeen.TheVariants.{Edit, Same, Synced, Fault, Death}
use Rattle.hist_journal.specs.Kinds.{is_call}

module _ {V T : Type 0} where
  -- an entry of the list stands so before those behind it
  abbrev pub some_entry : (EntrySeen V T → List (EntrySeen V T) → Bool) → List (EntrySeen V T) → Bool
  some_entry stands [] = false
  some_entry stands (e ∷ es) = stands e es || some_entry stands es

  -- an entry of this call, of such a kind
  abbrev pub is_own : (KindSeen V T → Bool) → CallId → EntrySeen V T → Bool
  is_own is_kind call e = is_call call e.who && is_kind e.kind

  abbrev pub is_any : KindSeen V T → Bool
  is_any kind = true

  abbrev pub is_update : KindSeen V T → Bool
  is_update (Edit t) = true
  is_update (Same t) = true
  is_update other = false

  abbrev pub is_death : KindSeen V T → Bool
  is_death (Death node) = true
  is_death other = false

  abbrev pub is_fault_or_death : KindSeen V T → Bool
  is_fault_or_death (Fault device count) = true
  is_fault_or_death (Death node) = true
  is_fault_or_death other = false

  -- a Synced, a Fault of the folder, or a Death: what may stand behind an Edit or a Same of its call
  abbrev pub is_update_end : KindSeen V T → Bool
  is_update_end Synced = true
  is_update_end (Fault Folder count) = true
  is_update_end (Death node) = true
  is_update_end other = false

  -- the history with entries of these kinds at its end
  abbrev pub with_entries : CallId → List (KindSeen V T) → List (EntrySeen V T) → List (EntrySeen V T)
  with_entries call [] list = list
  with_entries call (kind ∷ kinds) list = with_entries call kinds (list ++ record { who = call; kind = kind } ∷ [])
