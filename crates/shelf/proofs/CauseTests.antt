-- Whether an answer has its cause is tested, where a test says which values are the same.
use Rattle.std.proofs.Common.{◌≡◌, ◌+◌, ◌-◌, ◌^◌, ℕ, min, Bool, false, List, length, Option, Some, None, refl}
use Rattle.std.specs.List.{list_any}
use Rattle.store_traits.specs.declared.applied.Applied.TheVariants.{Refused}
use Rattle.store_traits.specs.declared.ids.CallId.{CallId}
use Rattle.store_traits.specs.declared.read_error.ReadError.{ReadError}
use Rattle.store_traits.specs.declared.read_error.ReadError.TheVariants as read
use Rattle.store_traits.specs.declared.update_error.UpdateError.{UpdateError}
use Rattle.store_traits.specs.declared.update_error.UpdateError.TheVariants as error
use Rattle.hist_journal.specs.declared.device.Device.TheVariants.{Folder, Legacy}
use Rattle.hist_journal.specs.declared.seen.BaseSeen.TheVariants.{Corrupt, TooLong}
use Rattle.hist_journal.specs.declared.seen.EntrySeen.{EntrySeen}
use Rattle.hist_journal.specs.Folds.{edition_of}
use Rattle.hist_journal.specs.Kinds.{is_change, is_death_of}
use Rattle.shelf.specs.declared.store.Store.{Store}
use Rattle.shelf.specs.Causes.{HasCause, HasReadCause, IsDead, IsFaulted, IsRefused, IsSince, IsTooLong, IsUncertain, IsUncertainSame, IsUnreadable, MakesTooLong, ReplacesTooLong, is_unsynced}
use Rattle.shelf.specs.Changes.{KeepsValue}
use Rattle.shelf.specs.Decided.{Decided}
use Rattle.shelf.specs.Entries.{is_own, is_update, some_entry}
use Rattle.shelf.specs.Legal.{value_at}
use Rattle.shelf.specs.PastBounds.{IsFull, IsPastLimit}
use Rattle.shelf.specs.Places.{HasFront, StandsAt, is_fault_of, is_up_to}
use Rattle.shelf.specs.Rules.{Rules, weight_at}
use Rattle.shelf.proofs.BaseTests.{MakesSo, holds_so, makes_so, refuses, same_base}
use Rattle.shelf.proofs.LegalTest.{keeps}
use Rattle.shelf.proofs.ListTests.{some_front}
use Rattle.shelf.proofs.PlaceTests.{follows_so, stands_so}
use Rattle.shelf.proofs.Tests.{at_most, both, either, inside, is_none, less, like, no, none, not_some, same_number, sure}

module _ {V T : Type 0} where
  -- nothing is asked of what stands around
  abbrev pub stands_there : (passes : EntrySeen V T → Bool) (place : ℕ) (list : List (EntrySeen V T)) → Decided (StandsAt passes place list)
  stands_there passes place list =
      like (λ it. it.stands) (λ it. record { stands = it; around = tt }) (stands_so passes place (λ before e behind. Unit {0}) (λ before e behind. sure tt) list)

  module _ (call : CallId) (place : ℕ) (list : List (EntrySeen V T)) where
    abbrev pub faulted : Decided (IsFaulted call place list)
    faulted =
        like
        (λ it. record { fault = it.0; no_update = it.1.0; all_synced = it.1.1 })
        (λ it. (it.fault, (it.no_update, it.all_synced)))
        (both (stands_there (is_own (is_fault_of Folder) call) place list) (both (no (list_any (is_own is_update call) list)) (no (some_entry (is_unsynced call) list))))

    abbrev pub uncertain : Decided (IsUncertain call place list)
    uncertain =
        like
        (λ it. record { failed = it.follows; counted = it.around })
        (λ it. record { follows = it.failed; around = it.counted })
        (follows_so is_change (is_fault_of Folder) call (λ before first between behind. place ≡ length before + 1) (λ before first between behind. same_number place (length before + 1)) list)

    abbrev pub dead : Decided (IsDead call place list)
    dead =
        like
        (λ it. record { death = it.stands; over = it.around })
        (λ it. record { stands = it.death; around = it.over })
        (stands_so (λ e. is_death_of call.node e.kind) place (λ before e behind. list_any (is_up_to call) behind ≡ false) (λ before e behind. no (list_any (is_up_to call) behind)) list)

module _ {V T M : Type 0} (same : (a b : V) → Decided (a ≡ b)) (r : Rules V T) (s : Store V M) where
  abbrev pub refused : (edit : T) (code edition : ℕ) (front : List (EntrySeen V T)) → Decided (IsRefused r s edit code edition front)
  refused edit code edition front =
      like
      (λ it. record { old = it.0.old; held = it.0.held; refused = it.0.holds; reached = it.1 })
      (λ it. (record { old = it.old; held = it.held; holds = it.refused }, it.reached))
      (both (holds_so (λ old. r.meanings.after edit old ≡ Refused code) (λ old. refuses (r.meanings.after edit old) code) (value_at r.meanings s front)) (same_number edition (edition_of front)))

  abbrev pub unreadable : Decided (IsUnreadable r s)
  unreadable = like (λ it. record { unreadable = it.0; unreplaced = it.1 }) (λ it. (it.unreadable, it.unreplaced)) (both (same_base same s.base Corrupt) (is_none s.handler))

  abbrev pub past_limit : (v : V) (len : ℕ) → Decided (IsPastLimit r s v len)
  past_limit v len = like (λ it. record { is = it.0; past = it.1 }) (λ it. (it.is, it.past)) (both (same_number len (min (length (r.encoded v)) (2 ^ 64 - 1))) (less s.limits.file len))

  abbrev pub makes_too_long : (edit : T) (len : ℕ) (front : List (EntrySeen V T)) → Decided (MakesTooLong r s edit len front)
  makes_too_long edit len front =
      like
      (λ it. record { old = it.old; new = it.holds.new; held = it.held; makes = it.holds.makes; long = it.holds.holds })
      (λ it. record { old = it.old; held = it.held; holds = record { new = it.new; makes = it.makes; holds = it.long } })
      (holds_so (λ old. MakesSo (r.meanings.after edit old) (λ new. IsPastLimit r s new len)) (λ old. makes_so (λ new. IsPastLimit r s new len) (λ new. past_limit new len) (r.meanings.after edit old)) (value_at r.meanings s front))

  abbrev pub given_too_long : (len : ℕ) (handler : Option V) → Decided ((new : V) × (handler ≡ Some new) × IsPastLimit r s new len)
  given_too_long len None = none (λ it. not_some it.0 it.1)
  given_too_long len (Some given) = like (λ long. (given, refl, long)) (λ it. let is : given ≡ it.0 = inside given it.0 it.1 in rw is it.2) (past_limit given len)

  abbrev pub replaces_too_long : (len : ℕ) → Decided (ReplacesTooLong r s len)
  replaces_too_long len =
      like
      (λ it. record { unreadable = it.0; new = it.1.0; given = it.1.1; long = it.1.2 })
      (λ it. (it.unreadable, (it.new, it.given, it.long)))
      (both (same_base same s.base Corrupt) (given_too_long len s.handler))

  abbrev pub since : (shown : ℕ) (Holds : List (EntrySeen V T) → Type 0) → ((front : List (EntrySeen V T)) → Decided (Holds front)) → (list : List (EntrySeen V T)) → Decided (HasFront (IsSince r s shown Holds) list)
  since shown Holds one list =
      some_front (IsSince r s shown Holds) (λ front. like (λ it. record { fresh = it.0; holds = it.1 }) (λ it. (it.fresh, it.holds)) (both (at_most shown (edition_of front)) (one front))) list

  abbrev pub full : (entries weight : ℕ) (list : List (EntrySeen V T)) → Decided (HasFront (IsFull r s entries weight) list)
  full entries weight list =
      some_front
      (IsFull r s entries weight)
      (λ front.
      like
      (λ it. record { entries_then = it.0; weight_then = it.1.0; bound = it.1.1 })
      (λ it. (it.entries_then, (it.weight_then, it.bound)))
      (both (same_number entries (length front)) (both (same_number weight (weight_at r front)) (either (at_most s.limits.history.entries entries) (at_most s.limits.history.weight weight)))))
      list

  abbrev pub uncertain_same : (call : CallId) (edit : T) (place : ℕ) (list : List (EntrySeen V T)) → Decided (IsUncertainSame r s call edit place list)
  uncertain_same call edit place list =
      like
      (λ it. record { fault = it.stands; same = it.around })
      (λ it. record { stands = it.fault; around = it.same })
      (stands_so
      (is_own (is_fault_of Folder) call)
      place
      (λ before e behind. KeepsValue r.meanings.after s.handler (value_at r.meanings s before) edit)
      (λ before e behind. keeps same r.meanings s (value_at r.meanings s before) edit)
      list)

  abbrev pub update_cause : (shown : ℕ) (call : CallId) (edit : T) (err : UpdateError) (list : List (EntrySeen V T)) → Decided (HasCause r s shown call edit err list)
  update_cause shown call edit (error.Refused code edition) list = some_front (IsRefused r s edit code edition) (refused edit code edition) list
  update_cause shown call edit error.Corrupt list = unreadable
  update_cause shown call edit (error.FileTooLong len) list = same_base same s.base (TooLong len)
  update_cause shown call edit (error.ValueTooLong len) list = since shown (IsTooLong r s edit len) (λ front. either (makes_too_long edit len front) (replaces_too_long len)) list
  update_cause shown call edit (error.HistoryFull entries weight) list = full entries weight list
  update_cause shown call edit (error.StorageFault at) list = faulted call at list
  update_cause shown call edit (error.NotDurable at) list = either (uncertain call at list) (uncertain_same call edit at list)
  update_cause shown call edit (error.LegacyFault at) list = stands_there (is_own (is_fault_of Legacy) call) at list
  update_cause shown call edit (error.Died at) list = dead call at list
  update_cause shown call edit error.NoMemory list = sure tt

  abbrev pub read_cause : (shown : ℕ) (call : CallId) (err : ReadError) (list : List (EntrySeen V T)) → Decided (HasReadCause r s shown call err list)
  read_cause shown call read.Corrupt list = unreadable
  read_cause shown call (read.FileTooLong len) list = same_base same s.base (TooLong len)
  read_cause shown call (read.ValueTooLong len) list = since shown (λ front. ReplacesTooLong r s len) (λ front. replaces_too_long len) list
  read_cause shown call (read.HistoryFull entries weight) list = full entries weight list
  read_cause shown call (read.StorageFault at) list = faulted call at list
  read_cause shown call (read.NotDurable at) list = uncertain call at list
  read_cause shown call (read.LegacyFault at) list = stands_there (is_own (is_fault_of Legacy) call) at list
  read_cause shown call (read.Died at) list = dead call at list
  read_cause shown call read.NoMemory list = sure tt
