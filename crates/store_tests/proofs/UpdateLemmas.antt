-- What the calls of a single update may add.
use Rattle.std.proofs.Common.{◌≡◌, ◌∙◌, true, List, [], ◌∷◌, ◌++◌, Some, None, ◌≤◌, ℕ, zero, suc, length, take, drop, refl, sym, ap, subst, arith}
use Rattle.store_traits.specs.declared.ids.CallId.{CallId}
use Rattle.hist_journal.specs.declared.seen.BaseSeen.{BaseSeen}
use Rattle.hist_journal.specs.declared.seen.EntrySeen.{EntrySeen}
use Rattle.hist_journal.specs.declared.seen.KindSeen.TheVariants.{Inited, Raise, Edit, Same, Synced}
use Rattle.hist_journal.specs.Nodes.{is_ready, last_mark}
use Rattle.hist_journal.specs.Quiet.{pending}
use Rattle.shelf.specs.declared.store.Store.{Store}
use Rattle.shelf.specs.Meanings.{Meanings}
use Rattle.shelf.specs.ShelfTurns.{FaultFits, FitInTurn}
use Rattle.shelf.proofs.GoingOn.{GoesOn, GoesOn-empty, GoesOn-push, raise_fits, fault_fits, edit_fits, same_fits, synced_fits, late_fault_fits, raise_opens}
use Rattle.shelf.proofs.SameCalls.{itself}
use Rattle.std.proofs.lemmas.Bool.{eq-eqb}
use Rattle.shelf.specs.Changes.{KeepsValue}
use Rattle.shelf.specs.Legal.{value_at}
use Rattle.shelf.specs.Plans.{Writes, WritesChange}
use Rattle.shelf.specs.Rules.{Rules, rules_of}
use Rattle.scratch_rename.specs.Filling.{Filling, filled_more}
use Rattle.store_traits.specs.declared.applied.Applied.{Applied}
use Rattle.store_traits.specs.declared.applied.Applied.TheVariants.{Changed}
use Rattle.hist_journal.specs.declared.seen.BaseSeen.TheVariants.{Held}
use Rattle.hist_journal.specs.Folds.{applied_or, edited, value_after, value_of}
use Rattle.hist_journal.proofs.FoldLemmas.{value_of-other, value_of-push}
use Rattle.store_tests.specs.SingleUpdate.{ChangesTo, Makes, changed, initialised, raised}

ready_initialised : (V T : Type 0) (call : CallId) → is_ready {V = V} {T = T} call.node (initialised call) ≡ true
unfolding is_ready last_mark
ready_initialised V T call = rw (eq-eqb call.node.0 call.node.0 refl) refl

ready_raised : (V T : Type 0) (call : CallId) → is_ready {V = V} {T = T} call.node (raised call) ≡ true
unfolding is_ready last_mark
ready_raised V T call = rw (eq-eqb call.node.0 call.node.0 refl) refl

changed_quiet : (V : Type 0) {T : Type 0} (call : CallId) (edit : T) → pending {V = V} {T = T} (changed call edit) ≡ None
unfolding pending
changed_quiet V call edit = rw (itself call) refl

written_quiet : (V : Type 0) {T : Type 0} (call : CallId) (edit : T) → pending {V = V} {T = T} (changed call edit ++ record { who = call; kind = Synced } ∷ []) ≡ None
unfolding pending
written_quiet V call edit = rw (itself call) refl

module _ {V T : Type 0} (call : CallId) where
  goes_on_initialised : GoesOn {V = V} {T = T} call (initialised call)
  goes_on_initialised = GoesOn-push call [] (Inited call.node) refl (GoesOn-empty call)

  goes_on_raised : GoesOn {V = V} {T = T} call (raised call)
  goes_on_raised = GoesOn-push call (initialised call) Raise refl goes_on_initialised

  module _ {M : Type 0} (m : Meanings V T) (s : Store V M) (list : List (EntrySeen V T)) where
    pub first_fault : list ≡ [] → FaultFits m s call list
    first_fault is = subst (λ (xs : List (EntrySeen V T)). FaultFits m s call xs) (sym is) (fault_fits call m s [] (GoesOn-empty call))

    pub fault_initialised : list ≡ initialised call → FaultFits m s call list
    fault_initialised is = subst (λ (xs : List (EntrySeen V T)). FaultFits m s call xs) (sym is) (fault_fits call m s (initialised call) goes_on_initialised)

    pub fault_raised : list ≡ raised call → FaultFits m s call list
    fault_raised is = subst (λ (xs : List (EntrySeen V T)). FaultFits m s call xs) (sym is) (fault_fits call m s (raised call) goes_on_raised)

    pub raise_initialised : list ≡ initialised call → FitInTurn m s call (Raise ∷ []) list
    raise_initialised is = subst (λ (xs : List (EntrySeen V T)). FitInTurn m s call (Raise ∷ []) xs) (sym is) (raise_fits call m s (initialised call) goes_on_initialised, tt)

  pub unraised_initialised : (list : List (EntrySeen V T)) → list ≡ initialised call → pending list ≡ Some call → ⊥
  unfolding pending
  unraised_initialised list is open_now = let none : None ≡ Some call = sym (ap pending is) ∙ open_now in absurd cc

  pub unraised_kept : (edit : T) (list : List (EntrySeen V T)) → list ≡ (initialised call ++ record { who = call; kind = Same edit } ∷ []) ++ record { who = call; kind = Synced } ∷ [] → pending list ≡ Some call → ⊥
  unfolding pending
  unraised_kept edit list is open_now = let none : None ≡ Some call = sym (ap pending is) ∙ open_now in absurd cc

  pub unraised_changed : (edit : T) (list : List (EntrySeen V T)) → list ≡ changed call edit → pending list ≡ Some call → ⊥
  unraised_changed edit list is open_now = let none : None ≡ Some call = sym (changed_quiet V call edit) ∙ (sym (ap pending is) ∙ open_now) in absurd cc

  pub unraised_written : (edit : T) (list : List (EntrySeen V T)) → list ≡ changed call edit ++ record { who = call; kind = Synced } ∷ [] → pending list ≡ Some call → ⊥
  unraised_written edit list is open_now = let none : None ≡ Some call = sym (written_quiet V call edit) ∙ (sym (ap pending is) ∙ open_now) in absurd cc

  module _ {M : Type 0} (m : Meanings V T) (s : Store V M) (list : List (EntrySeen V T)) where
    keeps_as : (before : List (EntrySeen V T)) (edit : T) → list ≡ before → KeepsValue m.after None (value_at m s list) edit → KeepsValue m.after s.handler (value_at m s before) edit
    keeps_as before edit is keeps = record { old = keeps.old; held = sym (ap (value_at m s) is) ∙ keeps.held; makes = keeps.makes }

    pub keep_fits : (edit : T) → list ≡ initialised call → KeepsValue m.after None (value_at m s list) edit → FitInTurn m s call (Same edit ∷ Synced ∷ []) list
    keep_fits edit is keeps =
        subst (λ (xs : List (EntrySeen V T)). FitInTurn m s call (Same edit ∷ Synced ∷ []) xs)
        (sym is)
        (same_fits call m s (initialised call) goes_on_initialised edit (ready_initialised V T call) (keeps_as (initialised call) edit is keeps), (synced_fits call m s (initialised call) goes_on_initialised (Same edit) refl, tt))

    pub change_fits : (edit : T) (new : V) → list ≡ raised call → ChangesTo m.after (value_at m s list) edit new → FitInTurn m s call (Edit edit ∷ []) list
    change_fits edit new is changes =
        subst (λ (xs : List (EntrySeen V T)). FitInTurn m s call (Edit edit ∷ []) xs)
        (sym is) (
          edit_fits call m s (raised call) goes_on_raised edit (raise_opens call (initialised call)) (ready_raised V T call) (record {
            old = changes.old;
            new = new;
            held = sym (ap (value_at m s) is) ∙ changes.held;
            makes = changes.makes;
            differs = changes.differs;
          }),
          tt,
        )

    pub synced_changed : (edit : T) → list ≡ changed call edit → FitInTurn m s call (Synced ∷ []) list
    synced_changed edit is = subst (λ (xs : List (EntrySeen V T)). FitInTurn m s call (Synced ∷ []) xs) (sym is) (synced_fits call m s (raised call) goes_on_raised (Edit edit) refl, tt)

    pub fault_changed : (edit : T) → list ≡ changed call edit → FaultFits m s call list
    fault_changed edit is = subst (λ (xs : List (EntrySeen V T)). FaultFits m s call xs) (sym is) (late_fault_fits call m s (raised call) goes_on_raised (Edit edit) refl)

-- the value that a change makes
made : {V T : Type 0} (after : T → V → Applied V) (base : BaseSeen V) (edit : T) (old new : V) → base ≡ Held old → after edit old ≡ Changed new → value_after after base (Edit edit) ≡ Held new
unfolding value_after edited applied_or
made after base edit old new held makes = rw (held, makes) refl

pub writes_change : {V T M : Type 0} (r : Rules V T) (I : V → Type 0) (s : Store V M) (list : List (EntrySeen V T)) (call : CallId) (edit : T) (plan : List ℕ) → Makes r I s list edit plan → WritesChange r I s list (record { who = call; kind = Edit edit }) plan
writes_change r I s list call edit plan makes =
    record {
      value = makes.new;
      makes = value_of-push r.meanings.after s.base list (record { who = call; kind = Edit edit }) ∙ made r.meanings.after (value_of r.meanings.after s.base list) edit makes.changes.old makes.new makes.changes.held makes.changes.makes;
      writes = makes.writes;
    }

-- a plan of which one piece was written
pub all_written : (plan : List ℕ) (first filled : Filling) → first ≡ record { written = []; rest = plan } → filled ≡ filled_more first → length filled.rest ≡ 0 → filled.written ≡ plan
all_written plan first filled begun more none = rw (more, begun) (whole 4096 plan (let e : length (drop 4096 plan) ≡ 0 = rw (more, begun) at none in e))
  where
    whole : (n : ℕ) (xs : List ℕ) → length (drop n xs) ≡ 0 → take n xs ≡ xs
    whole zero [] none = refl
    whole (suc n) [] none = refl
    whole zero (x ∷ xs) none = absurd (omega (arith, none))
    whole (suc n) (x ∷ xs) none = ap (λ rest. x ∷ rest) (whole n xs none)

pub piece_fits : (plan : List ℕ) (n : ℕ) → length (take n plan) ≤ length plan
piece_fits [] zero = omega arith
piece_fits [] (suc n) = omega arith
piece_fits (x ∷ xs) zero = omega arith
piece_fits (x ∷ xs) (suc n) = omega (arith, piece_fits xs n)

-- a Raise leaves the value
pub value_raised : {V T : Type 0} (after : T → V → Applied V) (base : BaseSeen V) (list new : List (EntrySeen V T)) (call : CallId) → new ≡ list ++ record { who = call; kind = Raise } ∷ [] → value_of after base new ≡ value_of after base list
value_raised after base list new call is = ap (value_of after base) is ∙ value_of-other after base list (record { who = call; kind = Raise }) refl

-- a plan that was made before the Raise is that of the change behind it
pub makes_later : {C V T M : Type 0} (after : T → V → Applied V) (weight : T → ℕ) (encoded : C → V → List ℕ) (reads : C → List ℕ → V → Type 0) (absent : C → V) (is_value : C → V → Type 0) (codec codec' : C) (s s' : Store V M)
    (list list' : List (EntrySeen V T)) (call : CallId) (edit : T) (value : V) (plan plan' : List ℕ) → codec' ≡ codec → s' ≡ s → list' ≡ list ++ record { who = call; kind = Raise } ∷ [] → plan' ≡ plan
    → ChangesTo after (value_of after s.base list) edit value → Writes (rules_of after weight (encoded codec) (reads codec) (absent codec)) (is_value codec) s value plan
    → Makes (rules_of after weight (encoded codec') (reads codec') (absent codec')) (is_value codec') s' list' edit plan'
makes_later after weight encoded reads absent is_value codec codec' s s' list list' call edit value plan plan' same_codec same_store is same_plan changes writes =
    let later : ChangesTo after (value_of after s.base list') edit value = record { old = changes.old; held = value_raised after s.base list list' call is ∙ changes.held; makes = changes.makes; differs = changes.differs } in
    rw (same_codec, same_store, same_plan) (record { new = value; changes = later; writes = writes })
