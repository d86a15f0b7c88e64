-- Looking at the ticket that is served keeps the rule, and gives the state to the one whose ticket it is.
use Rattle.std.proofs.Common.{◌≡◌, ℕ, ◌+◌, ◌≤◌, eqb, Bool, true, false, List, [], ◌∷◌, set, refl, sym, ap, ◌∙◌, subst, ⊎_elim, inl, inr, arith, true≢false, Some, Option}
use mathlib.Core.Option.{some}
use mathlib.Core.Option as maybe
use mathlib.Core.List.{IsPrefix}
use lib.ListN.{get_elem?}
use borrow.Author.Tests.{eqb-true}
use Rattle.std.specs.Bool.{MatchBool}
use Rattle.atomic_table.specs.Table.{Act, Me, step, keeps, takes, Allows, Valid, homes_after, carried_after}
use Rattle.hist_journal.specs.Meaning.{Meaning, raises, of_clients}
use Rattle.version_room.specs.declared.view.Begun.{Begun}
use Rattle.version_room.specs.declared.view.Known.{Known}
use Rattle.version_room.specs.declared.view.Stage.{Stage}
use Rattle.version_room.specs.declared.view.Stage.TheVariants.{Outside, Waiting, InTurn}
use Rattle.version_room.specs.declared.view.View.{View}
use Rattle.version_room.specs.Known.{HasSomeClient}
use Rattle.version_room.specs.Rule.{Moment, Stands, Waits, HasTurn, Fits, IsTrueAt, IsHome, IsOut, Keeps}
use Rattle.version_room.specs.Steps.{Enters, Welcomes, begun_at, looks}
use Rattle.version_room.specs.Views.{staged}
use Rattle.version_room.proofs.ListLemmas.{set_at}
use Rattle.version_room.proofs.RuleLemmas.{Plain, Can, words_of, rule_of, allows, others, stays, owner_view}

module _ {S D E H : Type 0} (m : Meaning S D E H) (head : D) where
  abbrev V : Type 0
  V = View D E H

  abbrev Ms : Type 0
  Ms = Me (Option S) V

  abbrev Is : Ms → Ms → Type 0
  Is me now = now ≡ me

  -- another seat stands where it stood
  stands_looked : (t : Moment E H) (id j : ℕ) (x : Stage E H) → t.out ≡ false → Stands t j x → Stands (record t { owner = id; out = true }) j x
  stands_looked t id j Outside inside h = tt
  stands_looked t id j (Waiting n) inside h = record { unserved = h.unserved; before = h.before; drawn = h.drawn }
  stands_looked t id j (InTurn b) inside h = absurd (true≢false (sym h.out ∙ inside))

  -- what is known of a pass is true of a state at home
  welcome : (t : Moment E H) (home : maybe.Option (Option S)) (views : List V) (id : ℕ) (k : Known E H) → Plain m head t home views → IsTrueAt m head t id k → (h : IsHome m head t home) → Welcomes m h.x k
  welcome t home views id k p f h =
      let version : t.version ≡ raises m t.now + t.raised = p.version_is in
      let quiet : t.raised ≡ 0 = h.quiet in
      let last : k.last ≤ t.version = f.last in
      let lists : raises m (m.list h.x) ≡ raises m t.now = ap (raises m) h.list_is in
      record {
        seen = subst (λ (l : List E). IsPrefix k.seen l) (sym h.list_is) f.seen;
        last = omega arith;
        mine = f.mine ∙ ap (of_clients m k.low k.high) (sym h.list_is);
        held = λ o e. ⊎_elim (λ (a : t.hold ≡ Some o). inl (h.holding_is ∙ a)) (λ a. inr (subst (λ (l : List E). m.lapsed o l) (sym h.list_is) a)) (f.held o e).1;
      }

  abbrev Looked : ℕ → Ms → Moment E H → maybe.Option (Option S) → List V → Bool → Type 0
  Looked id me t home views b =
      (w : V) × (a : Act (Option S)) × Valid (home ∷ []) me.1 a × Keeps m head record { words = words_of t; homes = homes_after (home ∷ []) me.1 a; views = set views id w }
      × MatchBool b (Enters m me (w, carried_after me.1 a)) (Is me (w, carried_after me.1 a))

  told : (id : ℕ) (me : Ms) (k slots : ℕ) → me.0.stage ≡ Waiting k → (t : Moment E H) (home : maybe.Option (Option S)) (views : List V) → Looked id me t home views (eqb t.serving k)
      → Can m head (words_of t) (home ∷ []) views id me 2 (λ n. n) (looks m (step slots 2 0 0 maybe.none) me)
  told id me k slots waiting t home views f = (f.0, f.1, f.2, f.3, λ n e. let same : k ≡ n = cc (sym waiting ∙ e) in subst (λ (n : ℕ). MatchBool (eqb t.serving n) (Enters m me (f.0, carried_after me.1 f.1)) (Is me (f.0, carried_after me.1 f.1))) same f.4)

  abbrev pair : V → List (ℕ × Option S) → Ms
  pair v c = (v, c)

  entered : (id : ℕ) (me : Ms) (k : ℕ) → me.1 ≡ [] → HasSomeClient me.0.own → (t : Moment E H) (home : maybe.Option (Option S)) (views : List V) → Plain m head t home views → get_elem? views id ≡ some me.0
      → t.serving ≡ k → Waits t id k → IsHome m head t home → Looked id me t home views true
  entered id me k free number t home views p at now stand h =
      let mine = p.each id me.0 at in
      let t' : Moment E H = record t { owner = id; out = true } in
      let b : Begun E H = begun_at m k h.x in
      let w : V = staged me.0 (InTurn b) in
      let turn : HasTurn t' id b = record { served = sym now; before = stand.before; drawn = stand.drawn; owner = refl; out = refl; list = h.list_is; holding = h.holding_is; raised = sym h.quiet } in
      let fit : Fits m head t' id w = record { head_is = mine.head_is; own = mine.own; gathered = mine.gathered; told = mine.told; stands = turn } in (
        w,
        takes 0 (Some h.x),
        ap some h.is,
        rule_of m head t' maybe.none (set views id w) record {
          ticket_fits = p.ticket_fits;
          order = p.order;
          version_is = p.version_is;
          state = inr record { v = w; begun = b; at = set_at views id me.0 w at; stage = refl; some_client = number; gone = refl };
          each = others m head t' views id w (λ j v apart at'. let f = p.each j v at' in record { head_is = f.head_is; own = f.own; gathered = f.gathered; told = f.told; stands = stands_looked t id j v.stage h.inside f.stands }) fit;
        },
        record {
          ticket = k;
          entry = h.x;
          now_is = ap (λ (c : List (ℕ × Option S)). pair w ((0, Some h.x) ∷ c)) free;
          head = λ d e. h.head_is ∙ sym (mine.head_is d e);
          welcomes = welcome t home views id me.0.own p mine.own h;
        },
      )

  looked : (id : ℕ) (me : Ms) (k : ℕ) → me.0.stage ≡ Waiting k → me.1 ≡ [] → HasSomeClient me.0.own → (t : Moment E H) (home : maybe.Option (Option S)) (views : List V) → Plain m head t home views → get_elem? views id ≡ some me.0
      → (b : Bool) → eqb t.serving k ≡ b → Looked id me t home views b
  looked id me k waiting free number t home views p at false e = (me.0, keeps, tt, stays m head t home views id me.0 p at, refl)
  looked id me k waiting free number t home views p at true e =
      let now : t.serving ≡ k = eqb-true t.serving k e in
      let stand : Waits t id k = subst (λ (x : Stage E H). Stands t id x) waiting (p.each id me.0 at).stands in
      ⊎_elim (entered id me k free number t home views p at now stand)
      (λ (o : IsOut t views).
      let turn : HasTurn t t.owner o.begun = subst (λ (x : Stage E H). Stands t t.owner x) o.stage (p.each t.owner o.v o.at).stands in
      let same : id ≡ t.owner = sym stand.drawn ∙ (ap t.drawn (sym now ∙ sym turn.served) ∙ turn.drawn) in
      absurd (cc (waiting, ap (λ (u : V). u.stage) (owner_view m head t views id me.0 at o same), o.stage)))
      p.state

  pub looks_keeps : (slots id : ℕ) (me : Ms) (k : ℕ) → me.0.stage ≡ Waiting k → me.1 ≡ [] → HasSomeClient me.0.own → Allows (Keeps m head) slots id me 2 (λ n. n) (looks m (step slots 2 0 0 maybe.none) me)
  looks_keeps slots id me k waiting free number =
      allows m head slots id me 2 (λ n. n) (looks m (step slots 2 0 0 maybe.none) me) (λ t home views p at below. told id me k slots waiting t home views (looked id me k waiting free number t home views p at (eqb t.serving k) refl))
