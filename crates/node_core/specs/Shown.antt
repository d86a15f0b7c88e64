-- What the history shows of a call that has ended: that its update was acknowledged, which value it read, or why it was answered by an error.
use Rattle.std.specs.Prelude.{◌≡◌, ◌⊎◌, ℕ, Bool, List, Option, Some, None, IsTrue}
use Rattle.std.specs.Option.{MatchOption}
use Rattle.store_traits.specs.declared.ids.CallId.{CallId}
use Rattle.store_traits.specs.declared.read_error.ReadError.{ReadError}
use Rattle.store_traits.specs.declared.read_error.ReadError.TheVariants as read
use Rattle.store_traits.specs.declared.update_error.UpdateError.{UpdateError}
use Rattle.store_traits.specs.declared.update_error.UpdateError.TheVariants as error
use Rattle.hist_journal.specs.declared.seen.BaseSeen.TheVariants.{Held}
use Rattle.hist_journal.specs.declared.seen.EntrySeen.{EntrySeen}
use Rattle.hist_journal.specs.Folds.{edition_of}
use Rattle.shelf.specs.declared.store.Store.{Store}
use Rattle.shelf.specs.Acknowledged.{IsUpdated}
use Rattle.shelf.specs.Causes.{HasCause, HasReadCause, IsUncertain, IsUncertainSame}
use Rattle.shelf.specs.Deaths.{last_death}
use Rattle.shelf.specs.Legal.{value_at}
use Rattle.shelf.specs.Rules.{Rules}
use Rattle.step_table.specs.Calls.{Ask, Update, Read, Reply, Updated, Gave, Failed}
use Rattle.step_table.specs.declared.progress.Progress.{Progress}
use Rattle.step_table.specs.declared.progress.Progress.TheVariants.{Ended}

-- a reason that a read may have
abbrev pub as_read : UpdateError → Option ReadError
as_read (error.Refused code edition) = None
as_read error.Corrupt = Some read.Corrupt
as_read (error.FileTooLong len) = Some (read.FileTooLong len)
as_read (error.ValueTooLong len) = Some (read.ValueTooLong len)
as_read (error.HistoryFull entries weight) = Some (read.HistoryFull entries weight)
as_read (error.StorageFault at) = Some (read.StorageFault at)
as_read (error.NotDurable at) = Some (read.NotDurable at)
as_read (error.LegacyFault at) = Some (read.LegacyFault at)
as_read (error.Died at) = Some (read.Died at)
as_read error.NoMemory = Some read.NoMemory

-- `shown` is an edition that was reached before; what speaks of the value or of main is shown where the folder tells what it holds
module _ {V T M : Type 0} (told : Bool) (r : Rules V T) (s : Store V M) (shown : ℕ) (call : CallId) where
  -- why an update ended so; of a death this shows its place, the last Death of the call's node
  abbrev pub ShowsCause : T → UpdateError → List (EntrySeen V T) → Type 0
  ShowsCause edit (error.HistoryFull entries weight) list = HasCause r s shown call edit (error.HistoryFull entries weight) list
  ShowsCause edit (error.StorageFault at) list = HasCause r s shown call edit (error.StorageFault at) list
  ShowsCause edit (error.NotDurable at) list = IsUncertain call at list ⊎ (IsTrue told → IsUncertainSame r s call edit at list)
  ShowsCause edit (error.LegacyFault at) list = HasCause r s shown call edit (error.LegacyFault at) list
  ShowsCause edit (error.Died at) list = last_death call.node list ≡ Some at
  ShowsCause edit error.NoMemory list = Unit {0}
  ShowsCause edit other list = IsTrue told → HasCause r s shown call edit other list

  -- why a read ended so
  abbrev pub ShowsReadCause : ReadError → List (EntrySeen V T) → Type 0
  ShowsReadCause read.Corrupt list = IsTrue told → HasReadCause r s shown call read.Corrupt list
  ShowsReadCause (read.FileTooLong len) list = IsTrue told → HasReadCause r s shown call (read.FileTooLong len) list
  ShowsReadCause (read.ValueTooLong len) list = IsTrue told → HasReadCause r s shown call (read.ValueTooLong len) list
  ShowsReadCause (read.Died at) list = last_death call.node list ≡ Some at
  ShowsReadCause other list = HasReadCause r s shown call other list

  -- a read gave the value and the edition of the history
  pub record GivesNow (edition : ℕ) (value : V) (list : List (EntrySeen V T)) : Type 0 where
    pub reached : edition ≡ edition_of list
    pub held : IsTrue told → value_at r.meanings s list ≡ Held value

  abbrev pub ShowsUpdated : T → Reply V → List (EntrySeen V T) → Type 0
  ShowsUpdated edit (Updated edition) list = IsUpdated call edit edition list
  ShowsUpdated edit (Failed error) list = ShowsCause edit error list
  ShowsUpdated edit other list = ⊥

  abbrev pub ShowsRead : Reply V → List (EntrySeen V T) → Type 0
  ShowsRead (Gave edition value) list = GivesNow edition value list
  ShowsRead (Failed error) list = MatchOption (as_read error) ⊥ (λ why. ShowsReadCause why list)
  ShowsRead other list = ⊥

  -- by what the call asked for
  abbrev pub ShowsReply : Ask T → Reply V → List (EntrySeen V T) → Type 0
  ShowsReply (Update edit) reply list = ShowsUpdated edit reply list
  ShowsReply Read reply list = ShowsRead reply list

  -- once it has ended
  abbrev pub ShowsAnswer : Ask T → Progress (Reply V) → List (EntrySeen V T) → Type 0
  ShowsAnswer ask (Ended reply) list = ShowsReply ask reply list
  ShowsAnswer ask other list = Unit {0}
