-- What a call may add next, by the entries of it that stand already.
use Rattle.std.proofs.Common.{◌≡◌, ◌∙◌, Bool, true, false, ◌&&◌, ℕ, List, [], ◌∷◌, ◌++◌, refl, sym, ap, append_assoc}
use Rattle.std.specs.List.{list_any}
use Rattle.std.proofs.lemmas.Bool.{and_right}
use Rattle.store_traits.specs.declared.ids.CallId.{CallId}
use Rattle.hist_journal.specs.declared.seen.EntrySeen.{EntrySeen}
use Rattle.hist_journal.specs.declared.seen.KindSeen.{KindSeen}
use Rattle.hist_journal.specs.declared.seen.KindSeen.TheVariants.{Raise, Edit, Inited}
use Rattle.hist_journal.specs.Kinds.{is_call}
use Rattle.hist_journal.specs.Nodes.{is_dead}
use Rattle.shelf.specs.CallOrder.{is_ended_update, is_later}
use Rattle.shelf.specs.Entries.{is_own, is_fault_or_death, is_update, some_entry}
use Rattle.shelf.proofs.Bools.{never, one_more}
use Rattle.shelf.proofs.GoingOn.{GoesOn, none_ended-push}
use Rattle.shelf.proofs.LateCallLemmas.{EndsOn}
use Rattle.shelf.proofs.MeanwhileLemmas as meanwhile
use Rattle.shelf.proofs.RaiseLemmas.{none_of_fewer}
use Rattle.node_core.specs.Own.{HasChanged, IsEarly, is_late}

not_own : (own late is : Bool) → (late ≡ false → is ≡ false) → (own && late) ≡ false → (own && is) ≡ false
not_own true late is covers none = covers none
not_own false late is covers none = refl

module _ {V T : Type 0} where
  ends_late : (kind : KindSeen V T) → is_late kind ≡ false → is_fault_or_death kind ≡ false
  ends_late Raise early = refl
  ends_late (Inited node) early = refl
  ends_late other early = never (sym early)

  pub updates_late : (kind : KindSeen V T) → is_late kind ≡ false → is_update kind ≡ false
  updates_late Raise early = refl
  updates_late (Inited node) early = refl
  updates_late other early = never (sym early)

  module _ (call : CallId) (list : List (EntrySeen V T)) where
    -- of a kind that is late, an early call has no entry
    pub none_late : (is_kind : KindSeen V T → Bool) → ((kind : KindSeen V T) → is_late kind ≡ false → is_kind kind ≡ false) → IsEarly call list → list_any (is_own is_kind call) list ≡ false
    none_late is_kind covers early =
        none_of_fewer (is_own is_kind call) (is_own is_late call) list (λ e none. not_own (is_call call e.who) (is_late e.kind) (is_kind e.kind) (covers e.kind) none) early

    -- a call that has changed nothing goes on
    pub early_goes_on : IsEarly call list → is_dead call.node list ≡ false → list_any (is_later call) list ≡ false → GoesOn call list
    early_goes_on early lives numbers =
        record { lives = lives; numbers = numbers; unended = none_late is_fault_or_death ends_late early; unchanged = none_late is_update updates_late early }

  -- a call that has changed the value may end
  pub changed_ends_on : (call : CallId) (place : ℕ) (list : List (EntrySeen V T)) → HasChanged call place list → is_dead call.node list ≡ false → list_any (is_later call) list ≡ false → EndsOn call list
  changed_ends_on call place list changed lives numbers =
      let e : EntrySeen V T = record { who = call; kind = Edit changed.edit } in
      let is : list ≡ (changed.before ++ e ∷ []) ++ changed.behind = changed.is ∙ sym (append_assoc changed.before (e ∷ []) changed.behind) in
      record {
        lives = lives;
        numbers = numbers;
        unended =
            ap (list_any (is_own is_fault_or_death call)) is
            ∙ (meanwhile.own is_fault_or_death call (changed.before ++ e ∷ []) changed.behind changed.last
            ∙ one_more (is_own is_fault_or_death call) changed.before e (none_late call changed.before is_fault_or_death ends_late changed.early) (and_right (is_call call call) false refl));
        first =
            ap (some_entry (is_ended_update call)) is
            ∙ (meanwhile.ended_update call (changed.before ++ e ∷ []) changed.behind changed.last ∙ none_ended-push call changed.before e (none_late call changed.before is_update updates_late changed.early));
      }
