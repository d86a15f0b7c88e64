-- Why a call is answered by an error: what the history of its session shows then.
use Rattle.std.specs.Prelude.{◌≡◌, ◌⊎◌, ◌≤◌, ◌+◌, ℕ, Bool, false, ◌&&◌, not, List, length, Some, None}
use Rattle.std.specs.List.{list_any}
use Rattle.store_traits.specs.declared.applied.Applied.TheVariants.{Changed, Refused}
use Rattle.store_traits.specs.declared.ids.CallId.{CallId}
use Rattle.store_traits.specs.declared.read_error.ReadError.{ReadError}
use Rattle.store_traits.specs.declared.read_error.ReadError.TheVariants as read
use Rattle.store_traits.specs.declared.update_error.UpdateError.{UpdateError}
use Rattle.store_traits.specs.declared.update_error.UpdateError.TheVariants as error
use Rattle.hist_journal.specs.declared.device.Device.TheVariants.{Folder, Legacy}
use Rattle.hist_journal.specs.declared.seen.BaseSeen.TheVariants.{Held, Corrupt, TooLong}
use Rattle.hist_journal.specs.declared.seen.EntrySeen.{EntrySeen}
use Rattle.hist_journal.specs.Folds.{edition_of}
use Rattle.hist_journal.specs.Kinds.{is_change, is_death_of}
use Rattle.shelf.specs.declared.store.Store.{Store}
use Rattle.shelf.specs.Changes.{KeepsValue}
use Rattle.shelf.specs.Entries.{is_own, is_update, some_entry}
use Rattle.shelf.specs.Images.{is_synced}
use Rattle.shelf.specs.Legal.{value_at}
use Rattle.shelf.specs.PastBounds.{IsFull, IsPastLimit}
use Rattle.shelf.specs.Places.{Follows, HasFront, StandsAt, is_fault_of, is_up_to}
use Rattle.shelf.specs.Rules.{Rules}

module _ {V T : Type 0} (call : CallId) where
  -- a value change of the call that has no Synced of it behind it
  abbrev pub is_unsynced : EntrySeen V T → List (EntrySeen V T) → Bool
  is_unsynced e behind = is_own is_change call e && not (list_any (is_own is_synced call) behind)

  -- the folder failed in the call, which has changed nothing that may not last
  pub record IsFaulted (place : ℕ) (list : List (EntrySeen V T)) : Type 0 where
    pub fault : StandsAt (is_own (is_fault_of Folder) call) place list
    pub no_update : list_any (is_own is_update call) list ≡ false
    pub all_synced : some_entry is_unsynced list ≡ false

  -- the change at this place is the call's, and the folder failed before it was synced
  pub record IsUncertain (place : ℕ) (list : List (EntrySeen V T)) : Type 0 where
    pub failed : Follows is_change (is_fault_of Folder) call list
    pub counted : place ≡ length failed.before + 1

  -- the node died there, and no later entry is of a call of this client up to this one
  pub record IsDead (place : ℕ) (list : List (EntrySeen V T)) : Type 0 where
    pub death : StandsAt (λ e. is_death_of call.node e.kind) place list
    pub over : list_any (is_up_to call) death.behind ≡ false

module _ {V T M : Type 0} (r : Rules V T) (s : Store V M) where
  -- the transform refuses the value of this edition
  pub record IsRefused (edit : T) (code edition : ℕ) (front : List (EntrySeen V T)) : Type 0 where
    pub old : V
    pub held : value_at r.meanings s front ≡ Held old
    pub refused : r.meanings.after edit old ≡ Refused code
    pub reached : edition ≡ edition_of front

  -- main is unreadable, and nothing takes its place
  pub record IsUnreadable : Type 0 where
    pub unreadable : s.base ≡ Corrupt
    pub unreplaced : s.handler ≡ None

  -- what the transform makes of the value is too long
  pub record MakesTooLong (edit : T) (len : ℕ) (front : List (EntrySeen V T)) : Type 0 where
    pub old : V
    pub new : V
    pub held : value_at r.meanings s front ≡ Held old
    pub makes : r.meanings.after edit old ≡ Changed new
    pub long : IsPastLimit r s new len

  -- what takes the place of an unreadable file is too long
  pub record ReplacesTooLong (len : ℕ) : Type 0 where
    pub unreadable : s.base ≡ Corrupt
    pub new : V
    pub given : s.handler ≡ Some new
    pub long : IsPastLimit r s new len

  -- this holds of a prefix that has all that was shown to the client
  pub record IsSince (shown : ℕ) (Holds : List (EntrySeen V T) → Type 0) (front : List (EntrySeen V T)) : Type 0 where
    pub fresh : shown ≤ edition_of front
    pub holds : Holds front

  -- what migrations make joins these, once there are some
  abbrev pub IsTooLong : T → ℕ → List (EntrySeen V T) → Type 0
  IsTooLong edit len front = MakesTooLong edit len front ⊎ ReplacesTooLong len

  -- the folder failed in an update that makes the same value of the one before
  pub record IsUncertainSame (call : CallId) (edit : T) (place : ℕ) (list : List (EntrySeen V T)) : Type 0 where
    pub fault : StandsAt (is_own (is_fault_of Folder) call) place list
    pub same : KeepsValue r.meanings.after s.handler (value_at r.meanings s fault.before) edit

  -- why an update is answered so; `shown` is an edition that the client was shown. Want of memory is free
  abbrev pub HasCause : (shown : ℕ) → CallId → T → UpdateError → List (EntrySeen V T) → Type 0
  HasCause shown call edit (error.Refused code edition) = HasFront (IsRefused edit code edition)
  HasCause shown call edit error.Corrupt = λ list. IsUnreadable
  HasCause shown call edit (error.FileTooLong len) = λ list. s.base ≡ TooLong len
  HasCause shown call edit (error.ValueTooLong len) = HasFront (IsSince shown (IsTooLong edit len))
  HasCause shown call edit (error.HistoryFull entries weight) = HasFront (IsFull r s entries weight)
  HasCause shown call edit (error.StorageFault at) = IsFaulted call at
  HasCause shown call edit (error.NotDurable at) = λ list. IsUncertain call at list ⊎ IsUncertainSame call edit at list
  HasCause shown call edit (error.LegacyFault at) = StandsAt (is_own (is_fault_of Legacy) call) at
  HasCause shown call edit (error.Died at) = IsDead call at
  HasCause shown call edit error.NoMemory = λ list. Unit {0}

  -- why a read is answered so
  abbrev pub HasReadCause : (shown : ℕ) → CallId → ReadError → List (EntrySeen V T) → Type 0
  HasReadCause shown call read.Corrupt = λ list. IsUnreadable
  HasReadCause shown call (read.FileTooLong len) = λ list. s.base ≡ TooLong len
  HasReadCause shown call (read.ValueTooLong len) = HasFront (IsSince shown (λ front. ReplacesTooLong len))
  HasReadCause shown call (read.HistoryFull entries weight) = HasFront (IsFull r s entries weight)
  HasReadCause shown call (read.StorageFault at) = IsFaulted call at
  HasReadCause shown call (read.NotDurable at) = IsUncertain call at
  HasReadCause shown call (read.LegacyFault at) = StandsAt (is_own (is_fault_of Legacy) call) at
  HasReadCause shown call (read.Died at) = IsDead call at
  HasReadCause shown call read.NoMemory = λ list. Unit {0}
