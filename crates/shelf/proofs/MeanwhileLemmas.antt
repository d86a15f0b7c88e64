-- What stays as it was whatever others add while a call is in progress.
use Rattle.std.proofs.Common.{◌≡◌, ◌∙◌, ◌≤◌, ℕ, Bool, true, false, ◌||◌, ◌&&◌, List, [], ◌∷◌, ◌++◌, drop, length, Option, Some, None, unwrap_or, refl, sym, ap, append_assoc, append-nil}
use Rattle.std.specs.List.{list_any}
use Rattle.std.proofs.Math.Bool.{or-false}
use Rattle.std.proofs.lemmas.Bool.{or_parts, and_parts}
use Rattle.std.proofs.lemmas.List.{drop-append-le}
use Rattle.std.proofs.lemmas.List.Folds.{list_any-append}
use Rattle.store_traits.specs.declared.applied.Applied.{Applied}
use Rattle.store_traits.specs.declared.ids.CallId.{CallId}
use Rattle.store_traits.specs.declared.ids.NodeId.{NodeId}
use Rattle.hist_journal.specs.declared.seen.BaseSeen.{BaseSeen}
use Rattle.hist_journal.specs.declared.seen.EntrySeen.{EntrySeen}
use Rattle.hist_journal.specs.declared.seen.KindSeen.{KindSeen}
use Rattle.hist_journal.specs.declared.seen.KindSeen.TheVariants.{Fault, Death, Restart}
use Rattle.hist_journal.specs.Folds.{edition_of, raises_of, value_of}
use Rattle.hist_journal.specs.Kinds.{is_call, is_change, is_death_of, is_raise}
use Rattle.hist_journal.specs.Nodes.{is_dead, is_ready, ready_mark}
use Rattle.hist_journal.proofs.FoldLemmas.{edition_of-other, raises_of-other, value_of-other}
use Rattle.hist_journal.proofs.NodeLemmas.{is_ready-push}
use Rattle.shelf.specs.CallOrder.{is_ended_update, is_later}
use Rattle.shelf.specs.Deaths.{died_since, has_died}
use Rattle.shelf.specs.Entries.{some_entry, is_any, is_fault_or_death, is_own, is_update}
use Rattle.shelf.specs.Meanwhile.{NoDeathOf, NoneOf, are_outer, is_outer}
use Rattle.shelf.proofs.Bools.{never, own_first}
use Rattle.shelf.proofs.GoingOn.{GoesOn, none_ended}
use Rattle.shelf.proofs.LateCallLemmas.{EndsOn}

module _ {V T : Type 0} where
  -- what others may add is neither a value change nor a Raise
  pub outer_is_neither : (kind : KindSeen V T) → is_outer kind ≡ true → (is_change kind ≡ false) × (is_raise kind ≡ false)
  outer_is_neither (Fault device count) outer = (refl, refl)
  outer_is_neither (Death node) outer = (refl, refl)
  outer_is_neither (Restart node) outer = (refl, refl)
  outer_is_neither other outer = never outer

  -- and says nothing of whether a node is ready, unless it is a Death of it
  unmarked : (node : NodeId) (kind : KindSeen V T) → is_outer kind ≡ true → is_death_of node kind ≡ false → ready_mark node kind ≡ None
  unmarked node (Fault device count) outer spared = refl
  unmarked node (Death died) outer spared = rw spared refl
  unmarked node (Restart alive) outer spared = refl
  unmarked node other outer spared = never outer

  -- what each of these entries leaves true, they all leave true
  pub carried : (Holds Fit : List (EntrySeen V T) → Type 0)
      → ((list : List (EntrySeen V T)) (e : EntrySeen V T) (behind : List (EntrySeen V T)) → Fit (e ∷ behind) → (Holds list → Holds (list ++ e ∷ [])) × Fit behind)
      → (list more : List (EntrySeen V T)) → Fit more → Holds list → Holds (list ++ more)
  carried Holds Fit step list [] fit holds = rw append-nil holds
  carried Holds Fit step list (e ∷ es) fit holds =
      let first = step list e es fit in
      rw (← append_assoc list (e ∷ []) es) (carried Holds Fit step (list ++ e ∷ []) es first.1 (first.0 holds))

  -- and what each leaves as it was, all do
  kept : {X : Type 0} (what : List (EntrySeen V T) → X) (Fit : List (EntrySeen V T) → Type 0)
      → ((list : List (EntrySeen V T)) (e : EntrySeen V T) (behind : List (EntrySeen V T)) → Fit (e ∷ behind) → (what (list ++ e ∷ []) ≡ what list) × Fit behind)
      → (list more : List (EntrySeen V T)) → Fit more → what (list ++ more) ≡ what list
  kept what Fit step list more fit = carried (λ xs. what xs ≡ what list) Fit (λ xs e es fits. let one = step xs e es fits in (λ was. one.0 ∙ was, one.1)) list more fit refl

  -- the first of the entries, and the others
  pub outer_parts : (e : EntrySeen V T) (behind : List (EntrySeen V T)) → are_outer (e ∷ behind) ≡ true → (is_outer e.kind ≡ true) × (are_outer behind ≡ true)
  outer_parts e behind outer = and_parts (is_outer e.kind) (are_outer behind) outer

  pub other_parts : (call : CallId) (e : EntrySeen V T) (behind : List (EntrySeen V T)) → NoneOf call (e ∷ behind) → ((is_call call e.who && true) ≡ false) × NoneOf call behind
  other_parts call e behind none = or_parts (is_call call e.who && true) (list_any (is_own is_any call) behind) none

  pub spared_parts : (node : NodeId) (e : EntrySeen V T) (behind : List (EntrySeen V T)) → NoDeathOf node (e ∷ behind) → (is_death_of node e.kind ≡ false) × NoDeathOf node behind
  spared_parts node e behind spared = or_parts (is_death_of node e.kind) (list_any (λ (x : EntrySeen V T). is_death_of node x.kind) behind) spared

  -- what each Fault, Death and Restart leaves as it was, all do
  kept_outer : {X : Type 0} (what : List (EntrySeen V T) → X) → ((list : List (EntrySeen V T)) (e : EntrySeen V T) → is_outer e.kind ≡ true → what (list ++ e ∷ []) ≡ what list)
      → (list more : List (EntrySeen V T)) → are_outer more ≡ true → what (list ++ more) ≡ what list
  kept_outer what one list more outer = kept what (λ es. are_outer es ≡ true) (λ xs e es all. let parts = outer_parts e es all in (one xs e parts.0, parts.1)) list more outer

  -- the value, the edition, the raises
  pub value : (after : T → V → Applied V) (base : BaseSeen V) (list more : List (EntrySeen V T)) → are_outer more ≡ true → value_of after base (list ++ more) ≡ value_of after base list
  value after base list more outer = kept_outer (value_of after base) (λ xs e is. value_of-other after base xs e (outer_is_neither e.kind is).0) list more outer

  pub edition : (list more : List (EntrySeen V T)) → are_outer more ≡ true → edition_of (list ++ more) ≡ edition_of list
  edition list more outer = kept_outer edition_of (λ xs e is. edition_of-other xs e (outer_is_neither e.kind is).0) list more outer

  pub raises : (list more : List (EntrySeen V T)) → are_outer more ≡ true → raises_of (list ++ more) ≡ raises_of list
  raises list more outer = kept_outer raises_of (λ xs e is. raises_of-other xs e (outer_is_neither e.kind is).1) list more outer

  -- a node that does not die
  pub ready : (node : NodeId) (list more : List (EntrySeen V T)) → are_outer more ≡ true → NoDeathOf node more → is_ready node (list ++ more) ≡ is_ready node list
  ready node list more outer spared = kept (is_ready node) (λ es. (are_outer es ≡ true) × NoDeathOf node es) step list more (outer, spared)
    where
      step : (xs : List (EntrySeen V T)) (e : EntrySeen V T) (es : List (EntrySeen V T)) → (are_outer (e ∷ es) ≡ true) × NoDeathOf node (e ∷ es)
          → (is_ready node (xs ++ e ∷ []) ≡ is_ready node xs) × ((are_outer es ≡ true) × NoDeathOf node es)
      step xs e es fit =
          let outer_too = outer_parts e es fit.0 in
          let spared_too = spared_parts node e es fit.1 in
          (is_ready-push node xs e ∙ ap (λ mark. unwrap_or mark (is_ready node xs)) (unmarked node e.kind outer_too.0 spared_too.0), (outer_too.1, spared_too.1))

  -- the entries of the call are those that it had
  pub own : (is_kind : KindSeen V T → Bool) (call : CallId) (list more : List (EntrySeen V T)) → NoneOf call more → list_any (is_own is_kind call) (list ++ more) ≡ list_any (is_own is_kind call) list
  own is_kind call list more none = kept (list_any (is_own is_kind call)) (NoneOf call) step list more none
    where
      step : (xs : List (EntrySeen V T)) (e : EntrySeen V T) (es : List (EntrySeen V T)) → NoneOf call (e ∷ es)
          → (list_any (is_own is_kind call) (xs ++ e ∷ []) ≡ list_any (is_own is_kind call) xs) × NoneOf call es
      step xs e es fit =
          let parts = other_parts call e es fit in
          (list_any-append (is_own is_kind call) xs (e ∷ []) ∙ rw (own_first (is_call call e.who) (is_kind e.kind) parts.0) (or-false (list_any (is_own is_kind call) xs)), parts.1)

  -- and so is what stands behind its update
  pub ended_update : (call : CallId) (list more : List (EntrySeen V T)) → NoneOf call more → some_entry (is_ended_update call) (list ++ more) ≡ some_entry (is_ended_update call) list
  ended_update call [] more none = none_ended call more (own is_update call [] more none)
  ended_update call (x ∷ xs) more none = rw (own is_any call xs more none, ended_update call xs more none) refl

  -- a node that has not died is not dead
  pub lives : (node : NodeId) (since : Option ℕ) (list : List (EntrySeen V T)) → has_died node since list ≡ false → is_dead node list ≡ false
  lives node since list alive = (or_parts (is_dead node list) (died_since node since list) alive).0

  -- a node that has not died since has no Death among the entries that came since
  pub no_death : (node : NodeId) (n : ℕ) (list more : List (EntrySeen V T)) → has_died node (Some n) (list ++ more) ≡ false → n ≤ length list → NoDeathOf node more
  no_death node n list more alive within =
      let dies = λ (e : EntrySeen V T). is_death_of node e.kind in
      let since : list_any dies (drop n (list ++ more)) ≡ false = (or_parts (is_dead node (list ++ more)) (died_since node (Some n) (list ++ more)) alive).1 in
      let split : (list_any dies (drop n list) || list_any dies more) ≡ false = sym (list_any-append dies (drop n list) more) ∙ (ap (list_any dies) (sym (drop-append-le n list more within)) ∙ since) in
      (or_parts (list_any dies (drop n list)) (list_any dies more) split).1

  module _ (call : CallId) (list more : List (EntrySeen V T)) (none : NoneOf call more) (alive : is_dead call.node (list ++ more) ≡ false) (numbers : list_any (is_later call) (list ++ more) ≡ false) where
    -- a call that goes on still does
    pub GoesOn-append : GoesOn call list → GoesOn call (list ++ more)
    GoesOn-append g =
        record {
          lives = alive;
          numbers = numbers;
          unended = own is_fault_or_death call list more none ∙ g.unended;
          unchanged = own is_update call list more none ∙ g.unchanged;
        }

    -- and so does one whose update stands
    pub EndsOn-append : EndsOn call list → EndsOn call (list ++ more)
    EndsOn-append e =
        record {
          lives = alive;
          numbers = numbers;
          unended = own is_fault_or_death call list more none ∙ e.unended;
          first = ended_update call list more none ∙ e.first;
        }
