-- Whether a history is quiet: no update is between its raise and its end.
use Rattle.std.specs.Prelude.{◌≡◌, Bool, ◌&&◌, ◌||◌, not, List, [], ◌∷◌, Option, Some, None, if◌then◌else◌}
use Rattle.std.specs.List.{list_any}
use Rattle.store_traits.specs.declared.ids.CallId.{CallId}
use Rattle.hist_journal.specs.declared.seen.EntrySeen.{EntrySeen}
use Rattle.hist_journal.specs.Kinds.{is_call, is_raise, is_change, is_fault, is_death_of}

-- a pending call stays pending unless it is ended
abbrev pub still_pending : (CallId → Bool) → Option CallId → Option CallId
still_pending is_ended None = None
still_pending is_ended (Some call) = if is_ended call then None else Some call

module _ {V T : Type 0} where
  -- what ends a Raise of this call: a value change or a Fault of the call, or a Death of its node
  abbrev pub ends : CallId → EntrySeen V T → Bool
  ends call e = (is_call call e.who && (is_change e.kind || is_fault e.kind)) || is_death_of call.node e.kind

  abbrev pub has_raise : List (EntrySeen V T) → Bool
  has_raise list = list_any (λ e. is_raise e.kind) list

  -- the call of this entry, where it is a Raise that nothing behind it ends
  abbrev pub open_raise : EntrySeen V T → List (EntrySeen V T) → Option CallId
  open_raise e behind = if is_raise e.kind && not (list_any (ends e.who) behind) then Some e.who else None

  -- the call of the last Raise, where nothing behind it ends it
  unfoldable pub pending : List (EntrySeen V T) → Option CallId
  pending [] = None
  pending (e ∷ es) = if has_raise es then pending es else open_raise e es

  abbrev pub Quiet : List (EntrySeen V T) → Type 0
  Quiet list = pending list ≡ None

  -- the pending call after one more entry
  abbrev pub pending_after : Option CallId → EntrySeen V T → Option CallId
  pending_after pending e = if is_raise e.kind then Some e.who else still_pending (λ call. ends call e) pending
