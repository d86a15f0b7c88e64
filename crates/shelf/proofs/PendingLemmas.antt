-- In a lawful history the pending call is the one whose Raise is open.
use Rattle.std.proofs.Common.{◌≡◌, ◌∙◌, ◌⊎◌, inl, inr, ◌↔◌, Bool, true, false, ◌||◌, ◌&&◌, not, List, [], ◌∷◌, ◌++◌, Option, Some, None, refl, sym, ap, cond, append_assoc, append-nil}
use Rattle.std.specs.List.{list_any}
use Rattle.std.proofs.Math.Bool.{or-false}
use Rattle.std.proofs.lemmas.List.Folds.{list_any-append}
use Rattle.std.proofs.lemmas.Bool.{or_right, false_from_ne_true}
use Rattle.store_traits.specs.declared.ids.CallId.{CallId}
use Rattle.hist_journal.specs.declared.seen.EntrySeen.{EntrySeen}
use Rattle.hist_journal.specs.Kinds.{is_call, is_raise, is_change, is_fault, is_death_of}
use Rattle.hist_journal.specs.Quiet.{ends, pending, still_pending}
use Rattle.hist_journal.proofs.QuietLemmas.{pending-push}
use Rattle.shelf.specs.declared.store.Store.{Store}
use Rattle.shelf.specs.Entries.{is_own}
use Rattle.shelf.specs.Legal.{Fits, Legal}
use Rattle.shelf.specs.Meanings.{Meanings}
use Rattle.shelf.specs.OpenRaise.{spends, is_open_raise, has_open_raise}
use Rattle.shelf.proofs.RaiseLemmas.{open_is_pending}
use Rattle.shelf.proofs.Bools.{never}
use Rattle.shelf.proofs.SameCalls.{itself}

open_more : (own spent before p raises : Bool) → ((own && not (spent || p)) || ((before && not p) || raises)) ≡ ((((own && not spent) || before) && not p) || raises)
open_more false spent before p raises = refl
open_more true true before p raises = refl
open_more true false true true raises = refl
open_more true false false true raises = refl
open_more true false true false raises = refl
open_more true false false false raises = refl

-- which of two was chosen
chosen : {X : Type 0} (b : Bool) (x y z : X) → cond b x y ≡ z → ((b ≡ true) × (x ≡ z)) ⊎ ((b ≡ false) × (y ≡ z))
chosen true x y z is = inl (refl, is)
chosen false x y z is = inr (refl, is)

-- what is no Raise and ends nothing spends nothing, unless it is a value change
spends_nothing : (raises changes own faults dies : Bool) → raises ≡ false → changes ≡ false → ((own && (changes || faults)) || dies) ≡ false → ((raises || changes) || ((own && faults) || dies)) ≡ false
spends_nothing false false own faults dies no_raise no_change unended = unended
spends_nothing false true own faults dies no_raise no_change unended = never (sym no_change)
spends_nothing true changes own faults dies no_raise no_change unended = never (sym no_raise)

change_ends : (own changes faults dies : Bool) → own ≡ true → changes ≡ true → ((own && (changes || faults)) || dies) ≡ false → ⊥
change_ends true true faults dies own changes unended = never (sym unended)
change_ends false changed faults dies own changes unended = never own
change_ends true false faults dies own changes unended = never changes

-- what is pending still was pending, and has not ended
pub still_open : (is_ended : CallId → Bool) (p : Option CallId) (call : CallId) → still_pending is_ended p ≡ Some call → (p ≡ Some call) × (is_ended call ≡ false)
still_open is_ended None call is = absurd cc
still_open is_ended (Some open_call) call is = kept_open (is_ended open_call) refl is
  where
    kept_open : (b : Bool) → is_ended open_call ≡ b → cond b None (Some open_call) ≡ Some call → (Some open_call ≡ Some call) × (is_ended call ≡ false)
    kept_open true ended is = absurd cc
    kept_open false ended is = let same : open_call ≡ call = cc in (is, ap is_ended (sym same) ∙ ended)

module _ {V T : Type 0} where
  pub has_open_raise-push : (call : CallId) (list : List (EntrySeen V T)) (e : EntrySeen V T)
      → has_open_raise call (list ++ e ∷ []) ≡ ((has_open_raise call list && not (spends call e)) || is_own is_raise call e)
  unfolding has_open_raise
  has_open_raise-push call [] e = alone (is_own is_raise call e)
    where
      alone : (b : Bool) → ((b && true) || false) ≡ b
      alone true = refl
      alone false = refl
  has_open_raise-push call (x ∷ xs) e =
      ap (λ later. is_open_raise call x (xs ++ e ∷ []) || later) (has_open_raise-push call xs e)
      ∙ (ap (λ spent. (is_own is_raise call x && not spent) || ((has_open_raise call xs && not (spends call e)) || is_own is_raise call e)) (list_any-append (spends call) xs (e ∷ []) ∙ ap (λ b. list_any (spends call) xs || b) (or-false (spends call e)))
      ∙ open_more (is_own is_raise call x) (list_any (spends call) xs) (has_open_raise call xs) (spends call e) (is_own is_raise call e))

module _ {V T M : Type 0} (m : Meanings V T) (s : Store V M) where
  pub change_is_pending : (before : List (EntrySeen V T)) (e : EntrySeen V T) → Fits m s before e → is_change e.kind ≡ true → pending before ≡ Some e.who
  change_is_pending before e fits change = open_is_pending e.who before (fits.raised change)

  abbrev IsOpen : List (EntrySeen V T) → Type 0
  IsOpen list = (call : CallId) → pending list ≡ Some call → has_open_raise call list ≡ true

  raise_is_open : (before : List (EntrySeen V T)) (e : EntrySeen V T) (call : CallId) → is_raise e.kind ≡ true → Some e.who ≡ Some call → has_open_raise call (before ++ e ∷ []) ≡ true
  raise_is_open before e call raises is =
      let who : e.who ≡ call = cc in
      let own : is_own is_raise call e ≡ true = rw (who, itself call) raises in
      has_open_raise-push call before e ∙ or_right (has_open_raise call before && not (spends call e)) (is_own is_raise call e) own

  stays_open : (before : List (EntrySeen V T)) (e : EntrySeen V T) (call : CallId) → Fits m s before e → IsOpen before → is_raise e.kind ≡ false
      → still_pending (λ c. ends c e) (pending before) ≡ Some call → has_open_raise call (before ++ e ∷ []) ≡ true
  stays_open before e call fits opened no_raise is =
      let kept : (pending before ≡ Some call) × (ends call e ≡ false) = still_open (λ c. ends c e) (pending before) call is in
      let was : pending before ≡ Some call = kept.0 in
      let no_change : is_change e.kind ≡ false =
      false_from_ne_true (is_change e.kind)
      (λ change.
      let own : pending before ≡ Some e.who = change_is_pending before e fits change in
      let who : e.who ≡ call = cc in
      change_ends (is_call call e.who) (is_change e.kind) (is_fault e.kind) (is_death_of call.node e.kind) (rw who (itself call)) change kept.1)
      in
      let free : spends call e ≡ false = spends_nothing (is_raise e.kind) (is_change e.kind) (is_call call e.who) (is_fault e.kind) (is_death_of call.node e.kind) no_raise no_change kept.1 in
      has_open_raise-push call before e ∙ rw (opened call was, free) refl

  open_step : (before : List (EntrySeen V T)) (e : EntrySeen V T) → Fits m s before e → IsOpen before → IsOpen (before ++ e ∷ [])
  open_step before e fits opened call is =
      elim (chosen (is_raise e.kind) (Some e.who) (still_pending (λ c. ends c e) (pending before)) (Some call) (sym (pending-push before e) ∙ is)) [
        | inl it ↦ raise_is_open before e call it.0 it.1
        | inr it ↦ stays_open before e call fits opened it.0 it.1
      ]

  open_rest : (front back : List (EntrySeen V T)) → Legal m s (front ++ back) → IsOpen front → IsOpen (front ++ back)
  open_rest front [] legal opened = rw append-nil opened
  open_rest front (e ∷ es) legal opened =
      let same : front ++ e ∷ es ≡ (front ++ e ∷ []) ++ es = sym (append_assoc front (e ∷ []) es) in
      rw same (open_rest (front ++ e ∷ []) es (rw same at legal) (open_step front e (legal.each front e es refl) opened))

  pub open_iff_pending : (list : List (EntrySeen V T)) (call : CallId) → Legal m s list → (has_open_raise call list ≡ true) ↔ (pending list ≡ Some call)
  unfolding pending
  open_iff_pending list call legal = (open_is_pending call list, open_rest [] list legal (λ c is. absurd (cc)) call)
