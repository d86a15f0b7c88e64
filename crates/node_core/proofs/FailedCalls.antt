-- What the history shows of a call that a Fault ended.
use Rattle.std.proofs.Common.{◌≡◌, ◌∙◌, ◌+◌, ℕ, Bool, true, false, List, [], ◌∷◌, ◌++◌, length, append_assoc, refl, sym, ap}
use Rattle.std.specs.List.{list_any}
use Rattle.std.proofs.lemmas.Bool.{or_parts, and_right}
use Rattle.store_traits.specs.declared.ids.CallId.{CallId}
use Rattle.hist_journal.specs.declared.device.Device.TheVariants.{Folder}
use Rattle.hist_journal.specs.declared.seen.EntrySeen.{EntrySeen}
use Rattle.hist_journal.specs.declared.seen.KindSeen.{KindSeen}
use Rattle.hist_journal.specs.declared.seen.KindSeen.TheVariants.{Raise, Inited, Fault, Edit}
use Rattle.hist_journal.specs.Kinds.{is_call, is_change}
use Rattle.shelf.specs.Causes.{IsFaulted, IsUncertain, is_unsynced}
use Rattle.shelf.specs.Entries.{is_own, is_update, some_entry}
use Rattle.shelf.specs.Places.{StandsAt, is_fault_of}
use Rattle.shelf.proofs.Bools.{never, one_more}
use Rattle.shelf.proofs.SameCalls.{itself}
use Rattle.node_core.specs.Own.{HasChanged, IsEarly, is_late}
use Rattle.node_core.proofs.EarlyLemmas.{none_late, updates_late}

module _ {V T : Type 0} where
  early_changes_nothing : (kind : KindSeen V T) → is_late kind ≡ false → is_change kind ≡ false
  early_changes_nothing Raise early = refl
  early_changes_nothing (Inited node) early = refl
  early_changes_nothing other early = never (sym early)

  module _ (call : CallId) where
    -- an early call has no Edit and no Same
    pub no_update : (list : List (EntrySeen V T)) → IsEarly call list → list_any (is_own is_update call) list ≡ false
    no_update list = none_late call list is_update updates_late

    no_change : (list : List (EntrySeen V T)) → IsEarly call list → list_any (is_own is_change call) list ≡ false
    no_change list = none_late call list is_change early_changes_nothing

    -- where it has changed nothing, all that it changed is synced
    all_synced : (list : List (EntrySeen V T)) → list_any (is_own is_change call) list ≡ false → some_entry (is_unsynced call) list ≡ false
    all_synced [] none = refl
    all_synced (e ∷ es) none =
        let parts = or_parts (is_own is_change call e) (list_any (is_own is_change call) es) none in
        rw (parts.0, all_synced es parts.1) refl

    module _ (list now : List (EntrySeen V T)) (count : ℕ) (grew : now ≡ list ++ record { who = call; kind = Fault Folder count } ∷ []) where
      abbrev fault_entry : EntrySeen V T
      fault_entry = record { who = call; kind = Fault Folder count }

      -- it is a Fault of the call
      pub fault_is_own : is_own (is_fault_of {V = V} {T = T} Folder) call fault_entry ≡ true
      fault_is_own = rw (itself call) refl

      -- the Fault is the last entry
      abbrev pub fault_stands : StandsAt (is_own (is_fault_of Folder) call) (length list + 1) now
      fault_stands = record { before = list; entry = fault_entry; behind = []; is = grew; counted = refl; passed = fault_is_own }

      none_with_fault : (is_kind : KindSeen V T → Bool) → is_kind (Fault Folder count) ≡ false → list_any (is_own is_kind call) list ≡ false → list_any (is_own is_kind call) now ≡ false
      none_with_fault is_kind other none = rw grew (one_more (is_own is_kind call) list fault_entry none (and_right (is_call call call) (is_kind (Fault Folder count)) other))

      -- a call that fails before it changes anything
      pub faulted : IsEarly call list → IsFaulted call (length list + 1) now
      faulted early =
          record {
            fault = fault_stands;
            no_update = none_with_fault is_update refl (no_update list early);
            all_synced = all_synced now (none_with_fault is_change refl (no_change list early));
          }

      -- a call that fails once its value change stands
      pub uncertain : (place : ℕ) → HasChanged call place list → IsUncertain call place now
      uncertain place changed =
          record {
            failed =
                record {
                  before = changed.before;
                  first = record { who = call; kind = Edit changed.edit };
                  between = changed.behind;
                  second = fault_entry;
                  behind = [];
                  is = grew ∙ (ap (λ xs. xs ++ fault_entry ∷ []) changed.is ∙ append_assoc changed.before (record { who = call; kind = Edit changed.edit } ∷ changed.behind) (fault_entry ∷ []));
                  opens = rw (itself call) refl;
                  next = changed.last;
                  closes = fault_is_own;
                };
            counted = changed.counted;
          }
