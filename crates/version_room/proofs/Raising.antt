-- Loading and raising the version in a turn keep the rule.
use Rattle.std.proofs.Common.{◌≡◌, ◌≢◌, ℕ, ◌+◌, ◌%◌, ◌^◌, ◌<◌, ◌≤◌, List, [], ◌∷◌, All, set, refl, sym, ap, ap₂, ◌∙◌, subst, inr, arith, mod-eq_of_lt, Option}
use Rattle.std.proofs.lemmas.List.Elements.{All-weaker}
use mathlib.Core.Option.{some}
use mathlib.Core.Option as maybe
use lib.ListN.{get_elem?}
use Rattle.atomic_table.specs.Table.{Me, step, keeps, Allows}
use Rattle.hist_journal.specs.Meaning.{Meaning, raises}
use Rattle.version_room.specs.declared.view.Begun.{Begun}
use Rattle.version_room.specs.declared.view.Known.{Known}
use Rattle.version_room.specs.declared.view.Stage.{Stage}
use Rattle.version_room.specs.declared.view.Stage.TheVariants.{Outside, Waiting, InTurn}
use Rattle.version_room.specs.declared.view.View.{View}
use Rattle.version_room.specs.Known.{HasSomeClient}
use Rattle.version_room.specs.Rule.{Moment, Stands, HasTurn, Fits, IsTrueAt, IsOut, Keeps}
use Rattle.version_room.specs.Steps.{hears, lifts, raised_once}
use Rattle.version_room.specs.Views.{staged}
use Rattle.version_room.proofs.ListLemmas.{set_at}
use Rattle.version_room.proofs.RuleLemmas.{Plain, rule_of, allows, others, stays, owner_view, turn_out, is_out}

module _ {S D E H : Type 0} (m : Meaning S D E H) (head : D) where
  abbrev V : Type 0
  V = View D E H

  abbrev Ms : Type 0
  Ms = Me (Option S) V

  version_in : (t : Moment E H) (home : maybe.Option (Option S)) (views : List V) (id : ℕ) (b : Begun E H) → Plain m head t home views → HasTurn t id b → t.version ≡ raises m b.list + b.raised
  version_in t home views id b p turn = p.version_is ∙ ap₂ (λ (l : List E) (r : ℕ). raises m l + r) (sym turn.list) (sym turn.raised)

  pub hears_keeps : (slots id : ℕ) (me : Ms) → Allows (Keeps m head) slots id me 0 (λ n. n) (hears m (step slots 0 0 0 maybe.none) me)
  hears_keeps slots id me = allows m head slots id me 0 (λ n. n) (hears m (step slots 0 0 0 maybe.none) me) (λ t home views p at below. (
    me.0,
    keeps,
    tt,
    stays m head t home views id me.0 p at,
    (refl, λ b is. version_in t home views id b p (turn_out m head t home views id me.0 p at b is)),
  ))

  true_later : (t : Moment E H) (j : ℕ) (k : Known E H) → IsTrueAt m head t j k → IsTrueAt m head (record t { version = t.version + 1 }) j k
  true_later t j k h = let last : k.last ≤ t.version = h.last in record { seen = h.seen; mine = h.mine; last = omega arith; held = h.held; clients = h.clients }

  all_true_later : (t : Moment E H) (j : ℕ) (ks : List (Known E H)) → All (IsTrueAt m head t j) ks → All (IsTrueAt m head (record t { version = t.version + 1 }) j) ks
  all_true_later t j ks h = All-weaker (IsTrueAt m head t j) (IsTrueAt m head (record t { version = t.version + 1 }) j) (true_later t j) ks h

  -- another seat stands where it stood
  stands_lifted : (t : Moment E H) (id j : ℕ) (x : Stage E H) → j ≢ id → t.owner ≡ id → Stands t j x → Stands (record t { version = t.version + 1; raised = t.raised + 1 }) j x
  stands_lifted t id j Outside apart mine h = tt
  stands_lifted t id j (Waiting n) apart mine h = record { unserved = h.unserved; before = h.before; drawn = h.drawn }
  stands_lifted t id j (InTurn b) apart mine h = absurd (apart (sym h.owner ∙ mine))

  abbrev one_more : Ms → Begun E H → Ms
  one_more me b = (staged me.0 (InTurn (raised_once b)), me.1)

  raised_again : (me : Ms) (b b' : Begun E H) → me.0.stage ≡ InTurn b → me.0.stage ≡ InTurn b' → one_more me b ≡ one_more me b'
  raised_again me b b' is is' = let same : b ≡ b' = cc (sym is ∙ is') in ap (one_more me) same

  lifted : (id : ℕ) (me : Ms) (b : Begun E H) → me.0.stage ≡ InTurn b → (t : Moment E H) (home : maybe.Option (Option S)) (views : List V) → Plain m head t home views → get_elem? views id ≡ some me.0 → HasTurn t id b → IsOut t views
      → Keeps m head record { words = (t.version + 1) ∷ t.ticket ∷ t.serving ∷ []; homes = home ∷ []; views = set views id (staged me.0 (InTurn (raised_once b))) }
  lifted id me b is t home views p at turn o =
      let mine = p.each id me.0 at in
      let version : t.version ≡ raises m t.now + t.raised = p.version_is in
      let t' : Moment E H = record t { version = t.version + 1; raised = t.raised + 1 } in
      let w : V = staged me.0 (InTurn (raised_once b)) in
      let turn' : HasTurn t' id (raised_once b) = record { served = turn.served; before = turn.before; drawn = turn.drawn; owner = turn.owner; out = turn.out; list = turn.list; holding = turn.holding; raised = ap (λ (r : ℕ). r + 1) turn.raised } in
      let fit : Fits m head t' id w = record { head_is = mine.head_is; own = true_later t id me.0.own mine.own; gathered = all_true_later t id me.0.gathered mine.gathered; told = mine.told; stands = turn' } in
      let number : HasSomeClient me.0.own = subst (λ (v : V). HasSomeClient v.own) (sym (owner_view m head t views id me.0 at o (sym turn.owner))) o.some_client in
      rule_of m head t' home (set views id w) record {
        ticket_fits = p.ticket_fits;
        order = p.order;
        version_is = omega arith;
        state = inr record { v = w; begun = raised_once b; at = subst (λ (z : ℕ). get_elem? (set views id w) z ≡ some w) (sym turn.owner) (set_at views id me.0 w at); stage = refl; some_client = number; gone = turn.out };
        each = others m head t' views id w (λ j v apart at'. let f = p.each j v at' in record { head_is = f.head_is; own = true_later t j v.own f.own; gathered = all_true_later t j v.gathered f.gathered; told = f.told; stands = stands_lifted t id j v.stage apart turn.owner f.stands }) fit;
      }

  pub lifts_keeps : (slots id : ℕ) (me : Ms) (b : Begun E H) → me.0.stage ≡ InTurn b → raises m b.list + b.raised + 1 < 18446744073709551616 → Allows (Keeps m head) slots id me 0 (λ n. (n + 1) % 2 ^ 64) (lifts m (step slots 0 1 0 maybe.none) me)
  lifts_keeps slots id me b is low = allows m head slots id me 0 (λ n. (n + 1) % 2 ^ 64) (lifts m (step slots 0 1 0 maybe.none) me) (λ t home views p at below.
      let turn = turn_out m head t home views id me.0 p at b is in
      let version : t.version ≡ raises m b.list + b.raised = version_in t home views id b p turn in (
        staged me.0 (InTurn (raised_once b)),
        keeps,
        tt,
        subst (λ (z : ℕ). Keeps m head record { words = z ∷ t.ticket ∷ t.serving ∷ []; homes = home ∷ []; views = set views id (staged me.0 (InTurn (raised_once b))) }) (sym (mod-eq_of_lt (omega arith))) (lifted id me b is t home views p at turn (is_out m head t home views p turn.out)),
        λ b' is'. raised_again me b b' is is',
      ))
