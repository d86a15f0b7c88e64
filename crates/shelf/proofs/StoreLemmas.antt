-- Lawful histories and causes speak of a store's base, its handler, its limits and the counts at the start alone.
use Rattle.std.proofs.Common.{◌≡◌, inl, inr, ⊎_elim, ℕ, List}
use Rattle.store_traits.specs.declared.ids.CallId.{CallId}
use Rattle.store_traits.specs.declared.update_error.UpdateError.{UpdateError}
use Rattle.store_traits.specs.declared.update_error.UpdateError.TheVariants as error
use Rattle.hist_journal.specs.declared.device.Device.{Device}
use Rattle.hist_journal.specs.declared.device.Device.TheVariants.{Folder, Legacy}
use Rattle.hist_journal.specs.declared.seen.EntrySeen.{EntrySeen}
use Rattle.hist_journal.specs.declared.seen.KindSeen.{KindSeen}
use Rattle.hist_journal.specs.declared.seen.KindSeen.TheVariants.{Raise, Edit, Same, Replace, Migrate, Synced, Cleared, Inited, Fault, Death, Restart}
use Rattle.shelf.specs.declared.store.Store.{Store}
use Rattle.store_traits.specs.declared.read_error.ReadError.{ReadError}
use Rattle.store_traits.specs.declared.read_error.ReadError.TheVariants as read
use Rattle.shelf.specs.Causes.{HasCause, HasReadCause, IsRefused, IsSince, IsTooLong, IsUncertainSame, IsUnreadable, ReplacesTooLong}
use Rattle.shelf.specs.PastBounds.{IsFull, IsPastLimit}
use Rattle.shelf.specs.Places.{HasFront}
use Rattle.shelf.specs.Rules.{Rules}
use Rattle.shelf.specs.FaultCounts.{IsNewCount, RaisesCount, count_at_start}
use Rattle.shelf.specs.Legal.{Fits, Legal}
use Rattle.shelf.specs.Meanings.{Meanings}

module _ {V T M N : Type 0} (m : Meanings V T) (s : Store V M) (s' : Store V N)
    (base : s'.base ≡ s.base) (handler : s'.handler ≡ s.handler) (folder : s'.folder.count ≡ s.folder.count) (legacy : s'.legacy.count ≡ s.legacy.count) where
  same_count : (device : Device) → count_at_start s' device ≡ count_at_start s device
  same_count Folder = folder
  same_count Legacy = legacy

  counts_alike : (before : List (EntrySeen V T)) (kind : KindSeen V T) → RaisesCount s before kind → RaisesCount s' before kind
  counts_alike before (Fault device count) rises =
      ⊎_elim
      (λ (new : IsNewCount s before device count). inl (record { start = rw (same_count device) new.start; earlier = new.earlier }))
      (λ at_end. inr at_end)
      rises
  counts_alike before Raise rises = tt
  counts_alike before (Edit t) rises = tt
  counts_alike before (Same t) rises = tt
  counts_alike before (Replace v) rises = tt
  counts_alike before (Migrate names v) rises = tt
  counts_alike before Synced rises = tt
  counts_alike before (Cleared name) rises = tt
  counts_alike before (Inited node) rises = tt
  counts_alike before (Death node) rises = tt
  counts_alike before (Restart node) rises = tt

  fits_alike : (before : List (EntrySeen V T)) (e : EntrySeen V T) → Fits m s before e → Fits m s' before e
  fits_alike before e fits =
      record {
        value = rw (base, handler) fits.value;
        raised = fits.raised;
        lifetimes = fits.lifetimes;
        order = fits.order;
        readiness = rw base fits.readiness;
        settings = fits.settings;
        counts = counts_alike before e.kind fits.counts;
      }

  pub legal_alike : (list : List (EntrySeen V T)) → Legal m s list → Legal m s' list
  legal_alike list legal = record { each = λ before e behind is. fits_alike before e (legal.each before e behind is) }

module _ {V T M N : Type 0} (r : Rules V T) (s : Store V M) (s' : Store V N) (base : s'.base ≡ s.base) (handler : s'.handler ≡ s.handler) (limits : s'.limits ≡ s.limits) where
  front_alike : (P Q : List (EntrySeen V T) → Type 0) → ((front : List (EntrySeen V T)) → P front → Q front) → (list : List (EntrySeen V T)) → HasFront P list → HasFront Q list
  front_alike P Q goes list it = record { front = it.front; back = it.back; is = it.is; holds = goes it.front it.holds }

  refused_alike : (edit : T) (code edition : ℕ) (front : List (EntrySeen V T)) → IsRefused r s edit code edition front → IsRefused r s' edit code edition front
  refused_alike edit code edition front it = record { old = it.old; held = rw base it.held; refused = it.refused; reached = it.reached }

  unreadable_alike : IsUnreadable r s → IsUnreadable r s'
  unreadable_alike it = record { unreadable = rw base it.unreadable; unreplaced = rw handler it.unreplaced }

  past_alike : (v : V) (len : ℕ) → IsPastLimit r s v len → IsPastLimit r s' v len
  past_alike v len it = record { is = it.is; past = rw limits it.past }

  replaces_alike : (len : ℕ) → ReplacesTooLong r s len → ReplacesTooLong r s' len
  replaces_alike len it = record { unreadable = rw base it.unreadable; new = it.new; given = rw handler it.given; long = past_alike it.new len it.long }

  too_long_alike : (edit : T) (len : ℕ) (front : List (EntrySeen V T)) → IsTooLong r s edit len front → IsTooLong r s' edit len front
  too_long_alike edit len front long =
      elim long [
        | inl makes ↦ inl (record { old = makes.old; new = makes.new; held = rw base makes.held; makes = makes.makes; long = past_alike makes.new len makes.long })
        | inr replaces ↦ inr (replaces_alike len replaces)
      ]

  since_alike : (shown : ℕ) (P Q : List (EntrySeen V T) → Type 0) → ((front : List (EntrySeen V T)) → P front → Q front) → (front : List (EntrySeen V T)) → IsSince r s shown P front → IsSince r s' shown Q front
  since_alike shown P Q goes front it = record { fresh = it.fresh; holds = goes front it.holds }

  full_alike : (entries weight : ℕ) (front : List (EntrySeen V T)) → IsFull r s entries weight front → IsFull r s' entries weight front
  full_alike entries weight front it = record { entries_then = it.entries_then; weight_then = it.weight_then; bound = rw limits it.bound }

  same_alike : (call : CallId) (edit : T) (place : ℕ) (list : List (EntrySeen V T)) → IsUncertainSame r s call edit place list → IsUncertainSame r s' call edit place list
  same_alike call edit place list it =
      record { fault = it.fault; same = record { old = it.same.old; held = rw base it.same.held; makes = it.same.makes } }

  pub cause_alike : (shown : ℕ) (call : CallId) (edit : T) (err : UpdateError) (list : List (EntrySeen V T)) → HasCause r s shown call edit err list → HasCause r s' shown call edit err list
  cause_alike shown call edit (error.Refused code edition) list it = front_alike _ _ (refused_alike edit code edition) list it
  cause_alike shown call edit error.Corrupt list it = unreadable_alike it
  cause_alike shown call edit (error.FileTooLong len) list it = rw base it
  cause_alike shown call edit (error.ValueTooLong len) list it = front_alike _ _ (since_alike shown _ _ (too_long_alike edit len)) list it
  cause_alike shown call edit (error.HistoryFull entries weight) list it = front_alike _ _ (full_alike entries weight) list it
  cause_alike shown call edit (error.StorageFault place) list it = it
  cause_alike shown call edit (error.NotDurable place) list it = elim it [ inl changed ↦ inl changed | inr same ↦ inr (same_alike call edit place list same) ]
  cause_alike shown call edit (error.LegacyFault place) list it = it
  cause_alike shown call edit (error.Died place) list it = it
  cause_alike shown call edit error.NoMemory list it = it

  pub read_cause_alike : (shown : ℕ) (call : CallId) (err : ReadError) (list : List (EntrySeen V T)) → HasReadCause r s shown call err list → HasReadCause r s' shown call err list
  read_cause_alike shown call read.Corrupt list it = unreadable_alike it
  read_cause_alike shown call (read.FileTooLong len) list it = rw base it
  read_cause_alike shown call (read.ValueTooLong len) list it = front_alike _ _ (since_alike shown _ _ (λ front replaces. replaces_alike len replaces)) list it
  read_cause_alike shown call (read.HistoryFull entries weight) list it = front_alike _ _ (full_alike entries weight) list it
  read_cause_alike shown call (read.StorageFault place) list it = it
  read_cause_alike shown call (read.NotDurable place) list it = it
  read_cause_alike shown call (read.LegacyFault place) list it = it
  read_cause_alike shown call (read.Died place) list it = it
  read_cause_alike shown call read.NoMemory list it = it
