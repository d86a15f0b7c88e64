-- Whether a call may change the value: its own Raise is the last one, and nothing behind has spent it.
use Rattle.std.specs.Prelude.{◌≡◌, Bool, false, ◌∷◌, ◌++◌, ◌&&◌, ◌||◌, not, List}
use Rattle.std.specs.List.{list_any}
use Rattle.store_traits.specs.declared.ids.CallId.{CallId}
use Rattle.hist_journal.specs.declared.seen.EntrySeen.{EntrySeen}
use Rattle.hist_journal.specs.declared.seen.KindSeen.TheVariants.{Raise}
use Rattle.hist_journal.specs.Kinds.{is_raise, is_change, is_fault, is_death_of}
use Rattle.shelf.specs.Entries.{some_entry, is_own}

module _ {V T : Type 0} where
  -- what spends a Raise of this call: another Raise, a value change of any call, a Fault of this call, a Death of its node
  abbrev pub spends : CallId → EntrySeen V T → Bool
  spends call e = (is_raise e.kind || is_change e.kind) || (is_own is_fault call e || is_death_of call.node e.kind)

  -- a Raise of this call that nothing behind it spends
  abbrev pub is_open_raise : CallId → EntrySeen V T → List (EntrySeen V T) → Bool
  is_open_raise call e behind = is_own is_raise call e && not (list_any (spends call) behind)

  unfoldable pub has_open_raise : CallId → List (EntrySeen V T) → Bool
  has_open_raise call list = some_entry (is_open_raise call) list

  -- the same in words: a Raise of the call, and entries behind it that do not spend it
  pub record EndsInRaise (call : CallId) (list : List (EntrySeen V T)) : Type 0 where
    pub before : List (EntrySeen V T)
    pub behind : List (EntrySeen V T)
    pub is : list ≡ before ++ record { who = call; kind = Raise } ∷ behind
    pub unspent : list_any (spends call) behind ≡ false
