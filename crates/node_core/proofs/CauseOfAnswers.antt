-- What a call is answered shows in the history: its update is there and synced, its value is that of the history, or the error has its cause.
use Rattle.std.proofs.Common.{◌≡◌, ◌∙◌, inl, inr, ℕ, Bool, true, false, IsTrue, List, [], ◌∷◌, ◌++◌, Some, append-nil, refl, sym, ap, arith}
use Rattle.store_traits.specs.declared.read_error.ReadError.{ReadError}
use Rattle.store_traits.specs.declared.read_error.ReadError.TheVariants as read
use Rattle.store_traits.specs.declared.update_error.UpdateError.{UpdateError}
use Rattle.store_traits.specs.declared.update_error.UpdateError.TheVariants as error
use Rattle.store_traits.specs.declared.ids.CallId.{CallId}
use Rattle.hist_journal.specs.declared.device.Device.TheVariants.{Folder}
use Rattle.hist_journal.specs.declared.seen.BaseSeen.TheVariants.{Held, Corrupt, TooLong}
use Rattle.hist_journal.specs.declared.seen.EntrySeen.{EntrySeen}
use Rattle.hist_journal.specs.declared.seen.KindSeen.TheVariants.{Fault}
use Rattle.hist_journal.specs.Folds.{edition_of}
use Rattle.shelf.specs.declared.store.Store.{Store}
use Rattle.shelf.specs.Acknowledged.{IsUpdated}
use Rattle.shelf.specs.Causes.{HasCause, HasReadCause, IsRefused, IsSince, IsTooLong}
use Rattle.shelf.specs.Deaths.{last_death}
use Rattle.shelf.specs.Endings.{synced_kinds}
use Rattle.shelf.specs.Entries.{with_entries}
use Rattle.shelf.specs.PastBounds.{IsFull}
use Rattle.shelf.specs.Places.{HasFront}
use Rattle.shelf.specs.Rules.{Rules}
use Rattle.step_table.specs.Calls.{Ask, Update, Read, At, SyncingFolder, Ending, Changed, Kept, Reply, Failed, is_gone}
use Rattle.step_table.specs.Effects.{Effect, all_kinds, gave_by}
use Rattle.step_table.specs.Rows.{Row, kept_edit, told_place, full, read_fails, too_long, unreadable, refuses, past_limit, gives, write_fails, acknowledges, sync_fails, finds_alive, restarts}
use Rattle.step_table.specs.Turn.{AllowedBy, Turn, has_died_by, dies_now}
use Rattle.step_table.specs.World.{World, Turned, begin, next_place}
use Rattle.step_table.specs.declared.progress.Progress.{Progress}
use Rattle.step_table.specs.declared.progress.Progress.TheVariants.{Ended}
use Rattle.node_core.specs.Knows.{Knows, KnowsContents}
use Rattle.node_core.specs.Own.{IsFor, OwnEntries}
use Rattle.node_core.specs.Reading.{ReadsTruly}
use Rattle.node_core.specs.Silence.{IsSilent}
use Rattle.node_core.specs.Shown.{ShowsAnswer, ShowsCause, ShowsReadCause}
use Rattle.node_core.proofs.Acknowledging.{edit_acknowledged, same_acknowledged}
use Rattle.node_core.proofs.DeathCause.{dead_before, dead_now}
use Rattle.node_core.proofs.FailedCalls.{fault_stands, faulted, uncertain}
use Rattle.node_core.proofs.ForLemmas.{asked_is, no_read}
use Rattle.node_core.proofs.UnreadableBase.{corrupt_from_start, too_long_from_start}

module _ {V T M : Type 0} (r : Rules V T) (s : Store V M) where
  -- the history is as it was
  abbrev front_now : (Holds : List (EntrySeen V T) → Type 0) (list : List (EntrySeen V T)) → Holds list → HasFront Holds list
  front_now Holds list holds = record { front = list; back = []; is = sym (append-nil list); holds = holds }

  module _ (w : World V T) (call : CallId) (count : ℕ) where
    -- where the folder failed
    abbrev failed : List (EntrySeen V T)
    failed = w.history ++ record { who = call; kind = Fault Folder count } ∷ []

    -- the history shows what a call is answered that asks for this, behind a turn that began in this world
    abbrev ShowsNow : Ask T → Progress (Reply V) → List (EntrySeen V T) → Type 0
    ShowsNow ask gave list = ShowsAnswer w.told r s (edition_of w.history) call ask gave list

    abbrev KnowsSo : At V T → Type 0
    KnowsSo at = IsTrue w.told → KnowsContents r s at w.folder w.history

    module _ (edit : T) where
      sync_acknowledges : (ending : Ending T) → OwnEntries {V = V} call (SyncingFolder ending) w.history → IsFor {V = V} call (Update edit) (SyncingFolder ending) w.history → IsUpdated call edit (edition_of w.history) (with_entries call (synced_kinds (kept_edit ending)) w.history)
      sync_acknowledges (Changed place) entries so = edit_acknowledged call edit w.history place so.0 (sym (asked_is edit so.0.edit so.1))
      sync_acknowledges (Kept asked) entries so = same_acknowledged call edit w.history asked entries (sym (asked_is edit asked so))

      sync_failed : (ending : Ending T) → OwnEntries {V = V} call (SyncingFolder ending) w.history → KnowsSo (SyncingFolder ending) → IsFor {V = V} call (Update edit) (SyncingFolder ending) w.history
          → ShowsNow (Update edit) (Ended (Failed (error.NotDurable (told_place (next_place w) ending)))) failed
      sync_failed (Changed place) entries contents so = inl (uncertain call w.history failed count refl place entries)
      sync_failed (Kept asked) entries contents so = inr (λ told. rw (asked_is edit asked so) (record { fault = fault_stands call w.history failed count refl; same = contents told }))

      update_shows : {at : At V T} {e : Effect V T} → Row r s w call at e → ReadsTruly r s w → OwnEntries call at w.history → KnowsSo at → IsFor call (Update edit) at w.history
          → ShowsNow (Update edit) (gave_by e.next) (with_entries call (all_kinds e.folder count e.kinds) w.history)
      update_shows (full free must bound) reads entries contents so = front_now (IsFull r s _ _) w.history bound
      update_shows read_fails reads entries contents so = faulted call w.history failed count refl entries
      update_shows (too_long read) reads entries contents so = λ told. too_long_from_start r.meanings.after s.base w.history _ (reads told (TooLong _) (read told))
      update_shows (unreadable read unreplaced) reads entries contents so = λ told. record { unreadable = corrupt_from_start r.meanings.after s.base w.history (reads told Corrupt (read told)); unreplaced = unreplaced }
      update_shows (refuses {edit = asked} {value} read refused) reads entries contents so =
          λ told. front_now (IsRefused r s edit _ _) w.history (record { old = value; held = reads told (Held value) (read told); refused = ap (λ t. r.meanings.after t value) (sym (asked_is asked edit so)) ∙ refused; reached = refl })
      update_shows (past_limit {edit = asked} {new} made long) reads entries contents so =
          λ told.
          front_now (IsSince r s (edition_of w.history) (IsTooLong r s edit _)) w.history
          (record {
            fresh = omega arith;
            holds = inl (record { old = made.old; new = new; held = reads told (Held made.old) (made.read told); makes = ap (λ t. r.meanings.after t made.old) (sym (asked_is asked edit so)) ∙ made.makes; long = long });
          })
      update_shows (gives plain read) reads entries contents so = no_read edit (sym so)
      update_shows write_fails reads entries contents so = faulted call w.history failed count refl entries
      update_shows (acknowledges {ending}) reads entries contents so = sync_acknowledges ending entries so
      update_shows (sync_fails {ending}) reads entries contents so = sync_failed ending entries contents so
      update_shows (finds_alive alive) reads entries contents so = absurd so
      update_shows (restarts dead) reads entries contents so = absurd so
      update_shows other reads entries contents so = tt

    -- a read changes nothing
    syncs_nothing : {X : Type 0} (ending : Ending T) → IsFor {V = V} call Read (SyncingFolder ending) w.history → X
    syncs_nothing (Changed place) so = absurd (no_read so.0.edit (sym so.1))
    syncs_nothing (Kept asked) so = absurd (no_read asked (sym so))

    read_shows : {at : At V T} {e : Effect V T} → Row r s w call at e → ReadsTruly r s w → OwnEntries call at w.history → IsFor call Read at w.history
        → ShowsNow Read (gave_by e.next) (with_entries call (all_kinds e.folder count e.kinds) w.history)
    read_shows (full free must bound) reads entries so = front_now (IsFull r s _ _) w.history bound
    read_shows read_fails reads entries so = faulted call w.history failed count refl entries
    read_shows (too_long read) reads entries so = λ told. too_long_from_start r.meanings.after s.base w.history _ (reads told (TooLong _) (read told))
    read_shows (unreadable read unreplaced) reads entries so = λ told. record { unreadable = corrupt_from_start r.meanings.after s.base w.history (reads told Corrupt (read told)); unreplaced = unreplaced }
    read_shows (refuses {edit = asked} read refused) reads entries so = no_read asked so
    read_shows (past_limit {edit = asked} made long) reads entries so = absurd (no_read asked so)
    read_shows (gives {value = value} plain read) reads entries so = record { reached = refl; held = λ told. reads told (Held value) (read told) }
    read_shows write_fails reads entries so = absurd so
    read_shows (acknowledges {ending}) reads entries so = syncs_nothing ending so
    read_shows (sync_fails {ending}) reads entries so = syncs_nothing ending so
    read_shows (finds_alive alive) reads entries so = absurd so
    read_shows (restarts dead) reads entries so = absurd so
    read_shows other reads entries so = tt

    row_shows : (ask : Ask T) {at : At V T} {e : Effect V T} → Row r s w call at e → ReadsTruly r s w → OwnEntries call at w.history → KnowsSo at → IsFor call ask at w.history
        → ShowsNow ask (gave_by e.next) (with_entries call (all_kinds e.folder count e.kinds) w.history)
    row_shows (Update edit) row reads entries contents so = update_shows edit row reads entries contents so
    row_shows Read row reads entries contents so = read_shows row reads entries so

    -- whatever it asked for
    died_shows : (ask : Ask T) (place : ℕ) (list : List (EntrySeen V T)) → last_death call.node list ≡ Some place → ShowsNow ask (Ended (Failed (error.Died place))) list
    died_shows (Update edit) place list dead = dead
    died_shows Read place list dead = dead

  module _ (ask : Ask T) (t : Turned V T) (knows : has_died_by (begin t) ≡ false → Knows r s t.world t.call) (reads : ReadsTruly r s t.world) (so : IsFor t.call.id ask t.call.at t.world.history) where
    abbrev Shows : Progress (Reply V) → List (EntrySeen V T) → Type 0
    Shows gave list = ShowsAnswer t.world.told r s (edition_of t.world.history) t.call.id ask gave list

    shows_by : (gone died dies : Bool) (count : ℕ) (e : Effect V T) → AllowedBy r s gone died dies (begin t) e → (died ≡ false → Knows r s t.world t.call)
        → Shows (gave_by e.next) (with_entries t.call.id (all_kinds e.folder count e.kinds) t.world.history)
    shows_by true died dies count e it k = absurd it
    shows_by false true dies count e it k = rw it.is (died_shows t.world t.call.id count ask it.place t.world.history it.last)
    shows_by false false true count e it k = rw it (died_shows t.world t.call.id count ask (next_place t.world) _ (dead_now t.call.id t.world.history))
    shows_by false false false count e it k = let k = k refl in row_shows t.world t.call.id count ask it reads k.entries k.contents so

    -- what a call is answered shows; where its node has died, the history shows by which Death
    pub turn_shows : (gave : Progress (Reply V)) → Turn r s t gave → Shows gave t.world_after.history
    turn_shows gave it =
        rw (it.comes.given, ap (λ (w : World V T). w.history) it.comes.world) (shows_by (is_gone t.call.at) (has_died_by (begin t)) (dies_now (begin t)) t.world_after.tally.count it.effect it.allowed knows)

  -- the whole cause, of a folder that tells what it holds: of a death, where the call was silent behind it
  pub told_cause : (edit : T) (told : Bool) (shown : ℕ) (call : CallId) (e : UpdateError) (list : List (EntrySeen V T)) → IsTrue told → ((at : ℕ) → e ≡ error.Died at → IsSilent call list) → ShowsCause told r s shown call edit e list → HasCause r s shown call edit e list
  told_cause edit told shown call (error.HistoryFull entries weight) list is silent it = it
  told_cause edit told shown call (error.StorageFault at) list is silent it = it
  told_cause edit told shown call (error.NotDurable at) list is silent it = elim it [ inl changed ↦ inl changed | inr same ↦ inr (same is) ]
  told_cause edit told shown call (error.LegacyFault at) list is silent it = it
  told_cause edit told shown call (error.Died at) list is silent it = dead_before call list at (silent at refl) it
  told_cause edit told shown call error.NoMemory list is silent it = tt
  told_cause edit told shown call other list is silent it = it is

  pub told_read_cause : (told : Bool) (shown : ℕ) (call : CallId) (e : ReadError) (list : List (EntrySeen V T)) → IsTrue told → ((at : ℕ) → e ≡ read.Died at → IsSilent call list) → ShowsReadCause told r s shown call e list → HasReadCause r s shown call e list
  told_read_cause told shown call read.Corrupt list is silent it = it is
  told_read_cause told shown call (read.FileTooLong len) list is silent it = it is
  told_read_cause told shown call (read.ValueTooLong len) list is silent it = it is
  told_read_cause told shown call (read.Died at) list is silent it = dead_before call list at (silent at refl) it
  told_read_cause told shown call other list is silent it = it
