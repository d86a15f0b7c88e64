-- Which call is pending whatever others add meanwhile.
use Rattle.std.proofs.Common.{◌≡◌, ◌∙◌, Bool, true, false, ◌||◌, ◌&&◌, not, List, [], ◌∷◌, ◌++◌, Option, Some, None, cond, refl, sym}
use Rattle.std.proofs.lemmas.Bool.{or_right}
use Rattle.std.specs.List.{list_any}
use Rattle.store_traits.specs.declared.ids.CallId.{CallId}
use Rattle.hist_journal.specs.declared.seen.EntrySeen.{EntrySeen}
use Rattle.hist_journal.specs.Kinds.{is_call, is_change, is_death_of, is_fault, is_raise}
use Rattle.hist_journal.specs.Quiet.{ends, has_raise, pending, still_pending}
use Rattle.hist_journal.proofs.QuietLemmas.{pending-push}
use Rattle.shelf.specs.Entries.{is_own}
use Rattle.shelf.specs.Meanwhile.{NoDeathOf, NoneOf, are_outer}
use Rattle.shelf.proofs.Bools.{never}
use Rattle.shelf.proofs.MeanwhileLemmas.{carried, other_parts, outer_is_neither, outer_parts, spared_parts}
use Rattle.shelf.proofs.SameCalls.{itself}

-- what is of no such call ends nothing of it, unless it is a Death of its node
ends_nothing : (own is_end dies : Bool) → (own && true) ≡ false → dies ≡ false → ((own && is_end) || dies) ≡ false
ends_nothing false is_end dies other spared = spared
ends_nothing true is_end dies other spared = never (sym other)

-- what was not ended is what it was
unless : (ended : Bool) (p : Option CallId) (call : CallId) → cond ended None p ≡ Some call → p ≡ Some call
unless false p call is = is
unless true p call is = absurd (cc)

-- an entry of another call makes no call pending
was_pending : (raises : Bool) (who call : CallId) (is_ended : CallId → Bool) (p : Option CallId) → (is_call call who && true) ≡ false
    → cond raises (Some who) (still_pending is_ended p) ≡ Some call → p ≡ Some call
was_pending true who call is_ended p other is = let same : who ≡ call = cc in let own : (is_call call who && true) ≡ true = rw (same, itself call) refl in never (sym other ∙ own)
was_pending false who call is_ended None other is = is
was_pending false who call is_ended (Some d) other is = unless (is_ended d) (Some d) call is

-- the pending call is that of a Raise
raised_here : (behind raises is_open raised : Bool) (who call : CallId) (p : Option CallId) → (p ≡ Some call → raised ≡ true)
    → cond behind p (cond (raises && is_open) (Some who) None) ≡ Some call → ((is_call call who && raises) || raised) ≡ true
raised_here true raises is_open raised who call p rest is = or_right (is_call call who && raises) raised (rest is)
raised_here false true true raised who call p rest is = let same : who ≡ call = cc in rw (same, itself call) refl
raised_here false true false raised who call p rest is = absurd (cc)
raised_here false false is_open raised who call p rest is = absurd (cc)

module _ {V T : Type 0} where
  -- a call that is pending stays so
  pub pending_stays : (call : CallId) (list more : List (EntrySeen V T)) → are_outer more ≡ true → NoneOf call more → NoDeathOf call.node more → pending list ≡ Some call → pending (list ++ more) ≡ Some call
  pending_stays call list more outer none spared is =
      carried (λ xs. pending xs ≡ Some call) (λ es. (are_outer es ≡ true) × NoneOf call es × NoDeathOf call.node es) step list more (outer, none, spared) is
    where
      step : (xs : List (EntrySeen V T)) (e : EntrySeen V T) (es : List (EntrySeen V T)) → (are_outer (e ∷ es) ≡ true) × NoneOf call (e ∷ es) × NoDeathOf call.node (e ∷ es)
          → (pending xs ≡ Some call → pending (xs ++ e ∷ []) ≡ Some call) × ((are_outer es ≡ true) × NoneOf call es × NoDeathOf call.node es)
      step xs e es fit =
          let outer_too = outer_parts e es fit.0 in
          let other_too = other_parts call e es fit.1 in
          let spared_too = spared_parts call.node e es fit.2 in
          let unraised : is_raise e.kind ≡ false = (outer_is_neither e.kind outer_too.0).1 in
          let unended : ends call e ≡ false = ends_nothing (is_call call e.who) (is_change e.kind || is_fault e.kind) (is_death_of call.node e.kind) other_too.0 spared_too.0 in
          (λ was. rw (pending-push xs e, unraised, was, unended) refl, (outer_too.1, other_too.1, spared_too.1))

  -- a call that is pending was so before the entries of others
  pub pending_was : (call : CallId) (list more : List (EntrySeen V T)) → NoneOf call more → pending (list ++ more) ≡ Some call → pending list ≡ Some call
  pending_was call list more none = carried (λ xs. pending xs ≡ Some call → pending list ≡ Some call) (NoneOf call) step list more none (λ is. is)
    where
      step : (xs : List (EntrySeen V T)) (e : EntrySeen V T) (es : List (EntrySeen V T)) → NoneOf call (e ∷ es)
          → ((pending xs ≡ Some call → pending list ≡ Some call) → pending (xs ++ e ∷ []) ≡ Some call → pending list ≡ Some call) × NoneOf call es
      step xs e es fit =
          let parts = other_parts call e es fit in
          (λ before is. before (was_pending (is_raise e.kind) e.who call (λ c. ends c e) (pending xs) parts.0 (sym (pending-push xs e) ∙ is)), parts.1)

  -- the pending call has a Raise
  pub pending_own : (call : CallId) (list : List (EntrySeen V T)) → pending list ≡ Some call → list_any (is_own is_raise call) list ≡ true
  unfolding pending
  pending_own call [] is = absurd (cc)
  pending_own call (e ∷ es) is =
      raised_here (has_raise es) (is_raise e.kind) (not (list_any (ends e.who) es)) (list_any (is_own is_raise call) es) e.who call (pending es) (pending_own call es) is
