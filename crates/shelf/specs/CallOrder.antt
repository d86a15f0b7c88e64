-- In which order the entries of a call, and the calls of a client, stand.
use Rattle.std.specs.Prelude.{◌≡◌, Bool, true, false, ◌==◌, ◌&&◌, nat_lt, List}
use Rattle.std.specs.List.{list_any}
use Rattle.store_traits.specs.declared.ids.CallId.{CallId}
use Rattle.hist_journal.specs.declared.seen.EntrySeen.{EntrySeen}
use Rattle.shelf.specs.Entries.{some_entry, is_own, is_any, is_update, is_fault_or_death, is_update_end}

module _ {V T : Type 0} where
  -- an entry of a later call of the same client
  abbrev pub is_later : CallId → EntrySeen V T → Bool
  is_later call e = (call.client.0 == e.who.client.0) && nat_lt call.number e.who.number

  -- an Edit or Same of this call that has an entry of this call behind it
  abbrev pub is_ended_update : CallId → EntrySeen V T → List (EntrySeen V T) → Bool
  is_ended_update call e behind = is_own is_update call e && list_any (is_own is_any call) behind

  -- the entry ends the update of its call, as the first entry of the call behind it
  pub record EndsUpdate (before : List (EntrySeen V T)) (e : EntrySeen V T) : Type 0 where
    pub ends : is_update_end e.kind ≡ true
    pub first : some_entry (is_ended_update e.who) before ≡ false

  pub record KeepsOrder (before : List (EntrySeen V T)) (e : EntrySeen V T) : Type 0 where
    -- the call numbers of a client never fall
    pub numbers : list_any (is_later e.who) before ≡ false
    -- a Fault or Death of a call is its last entry
    pub goes_on : list_any (is_own is_fault_or_death e.who) before ≡ false
    -- a call has one Edit or Same at most, and one entry at most behind it
    pub update : list_any (is_own is_update e.who) before ≡ true → EndsUpdate before e
