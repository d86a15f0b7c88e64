-- What a history shows of an answer, it still shows once it is longer.
use Rattle.std.proofs.Common.{◌≡◌, ◌∙◌, inl, inr, ℕ, ◌==◌, nat_le, Bool, true, false, ◌&&◌, ◌||◌, List, [], ◌∷◌, ◌++◌, refl, sym, ap, append_assoc, arith}
use Rattle.std.specs.List.{list_any}
use Rattle.std.proofs.lemmas.Bool.{or_parts}
use Rattle.std.proofs.lemmas.Bool.Decides.{nat_tests}
use Rattle.std.proofs.lemmas.List.Folds.{list_any-append}
use Rattle.store_traits.specs.declared.ids.CallId.{CallId}
use Rattle.store_traits.specs.declared.read_error.ReadError.{ReadError}
use Rattle.store_traits.specs.declared.read_error.ReadError.TheVariants as read
use Rattle.store_traits.specs.declared.update_error.UpdateError.{UpdateError}
use Rattle.store_traits.specs.declared.update_error.UpdateError.TheVariants as error
use Rattle.hist_journal.specs.declared.seen.EntrySeen.{EntrySeen}
use Rattle.hist_journal.specs.declared.seen.KindSeen.{KindSeen}
use Rattle.hist_journal.specs.Kinds.{is_call}
use Rattle.hist_journal.proofs.ClearingLemmas.{longer}
use Rattle.shelf.specs.declared.store.Store.{Store}
use Rattle.shelf.specs.Acknowledged.{IsUpdated}
use Rattle.shelf.specs.Causes.{HasCause, HasReadCause, IsDead, IsFaulted, IsUncertain, IsUncertainSame, is_unsynced}
use Rattle.shelf.specs.Entries.{is_any, is_own, is_update, some_entry}
use Rattle.shelf.specs.Images.{is_synced}
use Rattle.shelf.specs.Places.{Follows, HasFront, StandsAt, is_up_to}
use Rattle.shelf.specs.Rules.{Rules}
use Rattle.shelf.proofs.Bools.{never, none_in_both, own_first}
use Rattle.shelf.proofs.RaiseLemmas.{none_of_fewer}

no_earlier : (call who : CallId) → ((call.client.0 == who.client.0) && nat_le who.number call.number) ≡ false → is_call call who ≡ false
no_earlier call who none = grind (arith, nat_tests, none)

module _ {V T : Type 0} where
  module _ (call : CallId) where
    -- where no entry is of the call, none of some kind is
    pub no_kind : (is_kind : KindSeen V T → Bool) (list : List (EntrySeen V T)) → list_any (is_own is_any call) list ≡ false → list_any (is_own is_kind call) list ≡ false
    no_kind is_kind list = none_of_fewer (is_own is_kind call) (is_own is_any call) list (λ e none. own_first (is_call call e.who) (is_kind e.kind) none)

    -- where no entry is of a call of this client up to this one, none is of this one
    pub none_up_to : (list : List (EntrySeen V T)) → list_any (is_up_to call) list ≡ false → list_any (is_own is_any call) list ≡ false
    none_up_to list = none_of_fewer (is_own is_any call) (is_up_to call) list (λ e none. rw (no_earlier call e.who none) refl)

    none_unsynced : (more : List (EntrySeen V T)) → list_any (is_own is_any call) more ≡ false → some_entry (is_unsynced call) more ≡ false
    none_unsynced [] none = refl
    none_unsynced (e ∷ more) none =
        let parts = or_parts (is_own is_any call e) (list_any (is_own is_any call) more) none in
        by_head (is_call call e.who) _ _ (some_entry (is_unsynced call) more) parts.0 (none_unsynced more parts.1)
      where
        by_head : (own kind unsynced rest : Bool) → (own && true) ≡ false → rest ≡ false → (((own && kind) && unsynced) || rest) ≡ false
        by_head true kind unsynced rest none is = never (sym none)
        by_head false kind unsynced rest none is = is

    unsynced-more : (list more : List (EntrySeen V T)) → some_entry (is_unsynced call) list ≡ false → list_any (is_own is_any call) more ≡ false → some_entry (is_unsynced call) (list ++ more) ≡ false
    unsynced-more [] more all none = none_unsynced more none
    unsynced-more (e ∷ es) more all none =
        let parts = or_parts (is_unsynced call e es) (some_entry (is_unsynced call) es) all in
        let still = no_kind is_synced more none in
        let same : list_any (is_own is_synced call) (es ++ more) ≡ list_any (is_own is_synced call) es = list_any-append (is_own is_synced call) es more ∙ (rw still (or_false (list_any (is_own is_synced call) es))) in
        rw (same, parts.0, unsynced-more es more parts.1 none) refl
      where
        or_false : (b : Bool) → (b || false) ≡ b
        or_false true = refl
        or_false false = refl

  abbrev StandsAt-more : (passes : EntrySeen V T → Bool) (place : ℕ) (list more : List (EntrySeen V T)) → StandsAt passes place list → StandsAt passes place (list ++ more)
  StandsAt-more passes place list more at =
      record {
        before = at.before;
        entry = at.entry;
        behind = at.behind ++ more;
        is = longer list at.before at.behind more at.entry at.is;
        counted = at.counted;
        passed = at.passed;
      }

  abbrev Follows-more : (is_first is_second : KindSeen V T → Bool) (call : CallId) (list more : List (EntrySeen V T)) → Follows is_first is_second call list → Follows is_first is_second call (list ++ more)
  Follows-more is_first is_second call list more it =
      record {
        before = it.before;
        first = it.first;
        between = it.between;
        second = it.second;
        behind = it.behind ++ more;
        is = longer list it.before (it.between ++ it.second ∷ it.behind) more it.first it.is ∙ ap (λ xs. it.before ++ it.first ∷ xs) (append_assoc it.between (it.second ∷ it.behind) more);
        opens = it.opens;
        next = it.next;
        closes = it.closes;
      }

  abbrev pub HasFront-more : (Holds : List (EntrySeen V T) → Type 0) (list more : List (EntrySeen V T)) → HasFront Holds list → HasFront Holds (list ++ more)
  HasFront-more Holds list more it = record { front = it.front; back = it.back ++ more; is = ap (λ xs. xs ++ more) it.is ∙ append_assoc it.front it.back more; holds = it.holds }

  -- an update stays acknowledged, where no entry more is of its call
  pub IsUpdated-more : (call : CallId) (edit : T) (edition : ℕ) (list more : List (EntrySeen V T)) → list_any (is_own is_any call) more ≡ false → IsUpdated call edit edition list → IsUpdated call edit edition (list ++ more)
  IsUpdated-more call edit edition list more over it =
      record {
        synced = Follows-more is_update is_synced call list more it.synced;
        carried = it.carried;
        none_before = it.none_before;
        none_behind = none_in_both (is_own is_update call) it.synced.behind more it.none_behind (no_kind call is_update more over);
        reached = it.reached;
      }

  module _ (call : CallId) (place : ℕ) (list more : List (EntrySeen V T)) where
    IsFaulted-more : list_any (is_own is_any call) more ≡ false → IsFaulted call place list → IsFaulted call place (list ++ more)
    IsFaulted-more over it =
        record {
          fault = StandsAt-more _ place list more it.fault;
          no_update = none_in_both (is_own is_update call) list more it.no_update (no_kind call is_update more over);
          all_synced = unsynced-more call list more it.all_synced over;
        }

    IsUncertain-more : IsUncertain call place list → IsUncertain call place (list ++ more)
    IsUncertain-more it = record { failed = Follows-more _ _ call list more it.failed; counted = it.counted }

    IsDead-more : list_any (is_up_to call) more ≡ false → IsDead call place list → IsDead call place (list ++ more)
    IsDead-more over it = record { death = StandsAt-more _ place list more it.death; over = none_in_both (is_up_to call) it.death.behind more it.over over }

module _ {V T M : Type 0} (r : Rules V T) (s : Store V M) where
  IsUncertainSame-more : (call : CallId) (edit : T) (place : ℕ) (list more : List (EntrySeen V T)) → IsUncertainSame r s call edit place list → IsUncertainSame r s call edit place (list ++ more)
  IsUncertainSame-more call edit place list more it = record { fault = StandsAt-more _ place list more it.fault; same = it.same }

  module _ (call : CallId) (list more : List (EntrySeen V T)) (over : list_any (is_up_to call) more ≡ false) where
    -- an error keeps its cause, where no entry more is of a call of its client up to this one
    pub HasCause-more : (shown : ℕ) (edit : T) (err : UpdateError) → HasCause r s shown call edit err list → HasCause r s shown call edit err (list ++ more)
    HasCause-more shown edit (error.Refused code edition) it = HasFront-more _ list more it
    HasCause-more shown edit error.Corrupt it = it
    HasCause-more shown edit (error.FileTooLong len) it = it
    HasCause-more shown edit (error.ValueTooLong len) it = HasFront-more _ list more it
    HasCause-more shown edit (error.HistoryFull entries weight) it = HasFront-more _ list more it
    HasCause-more shown edit (error.StorageFault place) it = IsFaulted-more call place list more (none_up_to call more over) it
    HasCause-more shown edit (error.NotDurable place) it =
        elim it [ inl changed ↦ inl (IsUncertain-more call place list more changed) | inr same ↦ inr (IsUncertainSame-more call edit place list more same) ]
    HasCause-more shown edit (error.LegacyFault place) it = StandsAt-more _ place list more it
    HasCause-more shown edit (error.Died place) it = IsDead-more call place list more over it
    HasCause-more shown edit error.NoMemory it = it

    -- so does that of a read
    pub HasReadCause-more : (shown : ℕ) (err : ReadError) → HasReadCause r s shown call err list → HasReadCause r s shown call err (list ++ more)
    HasReadCause-more shown read.Corrupt it = it
    HasReadCause-more shown (read.FileTooLong len) it = it
    HasReadCause-more shown (read.ValueTooLong len) it = HasFront-more _ list more it
    HasReadCause-more shown (read.HistoryFull entries weight) it = HasFront-more _ list more it
    HasReadCause-more shown (read.StorageFault place) it = IsFaulted-more call place list more (none_up_to call more over) it
    HasReadCause-more shown (read.NotDurable place) it = IsUncertain-more call place list more it
    HasReadCause-more shown (read.LegacyFault place) it = StandsAt-more _ place list more it
    HasReadCause-more shown (read.Died place) it = IsDead-more call place list more over it
    HasReadCause-more shown read.NoMemory it = it
