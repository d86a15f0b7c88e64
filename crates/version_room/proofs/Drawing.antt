-- Drawing a ticket keeps the rule.
use Rattle.std.proofs.Common.{◌≡◌, ◌≢◌, ℕ, ◌+◌, ◌<◌, ◌≤◌, eqb, Bool, true, false, List, [], ◌∷◌, set, refl, sym, ap, ◌∙◌, arith, Option}
use mathlib.Core.Option.{some}
use mathlib.Core.Option as maybe
use lib.ListN.{get_elem?}
use borrow.Author.Tests.{eqb-true}
use prog.Atomic.{either}
use Rattle.std.specs.Bool.{MatchBool}
use Rattle.atomic_table.specs.Table.{Act, Me, step, keeps, Allows, Valid, homes_after, carried_after}
use Rattle.hist_journal.specs.Meaning.{Meaning}
use Rattle.version_room.specs.declared.view.Stage.{Stage}
use Rattle.version_room.specs.declared.view.Stage.TheVariants.{Outside, Waiting, InTurn}
use Rattle.version_room.specs.declared.view.View.{View}
use Rattle.version_room.specs.Rule.{Moment, Stands, Fits, Keeps}
use Rattle.version_room.specs.Steps.{draws}
use Rattle.version_room.specs.Views.{staged}
use Rattle.version_room.proofs.Changed.{put, put_here, put_else}
use Rattle.version_room.proofs.RuleLemmas.{Plain, rule_of, allows, others, stays, state_stays, idle_apart}

module _ {S D E H : Type 0} (m : Meaning S D E H) (head : D) where
  abbrev V : Type 0
  V = View D E H

  abbrev Ms : Type 0
  Ms = Me (Option S) V

  abbrev Is : Ms → Ms → Type 0
  Is me now = now ≡ me

  -- another seat stands where it stood
  stands_drawn : (t : Moment E H) (id j new : ℕ) (x : Stage E H) → j ≢ id → new ≡ t.ticket + 1 → Stands t j x → Stands (record t { ticket = new; drawn = put t.drawn t.ticket id }) j x
  stands_drawn t id j new Outside apart next h = tt
  stands_drawn t id j new (Waiting k) apart next h =
      let lt : k < t.ticket = h.before in
      record { unserved = h.unserved; before = omega arith; drawn = put_else t.drawn t.ticket id k (λ e. omega arith) ∙ h.drawn }
  stands_drawn t id j new (InTurn b) apart next h =
      let lt : b.ticket < t.ticket = h.before in
      record { served = h.served; before = omega arith; drawn = put_else t.drawn t.ticket id b.ticket (λ e. omega arith) ∙ h.drawn; owner = h.owner; out = h.out; list = h.list; holding = h.holding; raised = h.raised }

  abbrev Drawn : ℕ → Ms → ℕ → ℕ → Moment E H → maybe.Option (Option S) → List V → Bool → Type 0
  Drawn id me old new t home views b =
      (w : V) × (a : Act (Option S)) × Valid (home ∷ []) me.1 a × Keeps m head record { words = t.version ∷ either b new t.ticket ∷ t.serving ∷ []; homes = homes_after (home ∷ []) me.1 a; views = set views id w }
      × MatchBool b (Is (staged me.0 (Waiting old), me.1) (w, carried_after me.1 a)) (Is me (w, carried_after me.1 a))

  drawn : (id : ℕ) (me : Ms) (old new : ℕ) → me.0.stage ≡ Outside → new ≡ old + 1 → new < 18446744073709551616
      → (t : Moment E H) (home : maybe.Option (Option S)) (views : List V) → Plain m head t home views → get_elem? views id ≡ some me.0 → (b : Bool) → eqb t.ticket old ≡ b → Drawn id me old new t home views b
  drawn id me old new idle next fits t home views p at false e = (me.0, keeps, tt, stays m head t home views id me.0 p at, refl)
  drawn id me old new idle next fits t home views p at true e =
      let same : t.ticket ≡ old = eqb-true t.ticket old e in
      let next' : new ≡ t.ticket + 1 = omega arith in
      let order : t.serving ≤ t.ticket = p.order in
      let t' : Moment E H = record t { ticket = new; drawn = put t.drawn t.ticket id } in
      let w : V = staged me.0 (Waiting old) in
      let mine = p.each id me.0 at in
      let fit : Fits m head t' id w =
      record {
        head_is = mine.head_is;
        own = mine.own;
        gathered = mine.gathered;
        told = mine.told;
        stands = record { unserved = omega arith; before = omega arith; drawn = ap (λ (k : ℕ). put t.drawn t.ticket id k) (sym same) ∙ put_here t.drawn t.ticket id };
      } in (
        w,
        keeps,
        tt,
        rule_of m head t' home (set views id w) record {
          ticket_fits = fits;
          order = omega arith;
          version_is = p.version_is;
          state = state_stays m head t home views id w p.state (idle_apart m head t views id me.0 at idle);
          each = others m head t' views id w (λ j v apart at'. let f = p.each j v at' in record { head_is = f.head_is; own = f.own; gathered = f.gathered; told = f.told; stands = stands_drawn t id j new v.stage apart next' f.stands }) fit;
        },
        refl,
      )

  pub draws_keeps : (slots id : ℕ) (me : Ms) (old new : ℕ) → me.0.stage ≡ Outside → new ≡ old + 1 → new < 18446744073709551616 → Allows (Keeps m head) slots id me 1 (λ n. either (eqb n old) new n) (draws m (step slots 1 old new maybe.none) me)
  draws_keeps slots id me old new idle next fits = allows m head slots id me 1 (λ n. either (eqb n old) new n) (draws m (step slots 1 old new maybe.none) me) (λ t home views p at below. drawn id me old new idle next fits t home views p at (eqb t.ticket old) refl)
