-- A new room meets the rule, and what it says of a room that is closed by a seat with all client numbers.
use Rattle.std.proofs.Common.{◌≡◌, ℕ, zero, suc, ◌+◌, ◌<◌, ◌≤◌, le_refl, false, List, [], ◌∷◌, All, refl, sym, ap, ◌∙◌, subst, ⊎_elim, inl, arith, Some, Option}
use Rattle.std.proofs.lemmas.List.Elements.{All-weaker, All-nil, All-contains}
use mathlib.Core.Option.{some, some-injective, some-ne-none}
use mathlib.Core.Option as maybe
use mathlib.Core.List.{IsPrefix}
use lib.ListN.{get_elem?}
use Rattle.atomic_table.specs.Table.{opening, Final, Seen}
use Rattle.hist_journal.specs.Meaning.{Meaning, raises, of_clients}
use Rattle.version_room.specs.declared.view.Known.{Known}
use Rattle.version_room.specs.declared.view.Stage.TheVariants.{Outside}
use Rattle.version_room.specs.declared.view.View.{View}
use Rattle.version_room.specs.Closing.{EndsWell, HaveAllClients}
use Rattle.version_room.specs.Known.{all_clients}
use Rattle.version_room.specs.Rule.{Moment, Fits, IsTrueAt, IsHome, IsOut, Keeps}
use Rattle.version_room.specs.Views.{first_view}
use Rattle.version_room.proofs.ListLemmas.{prefix_none}
use Rattle.version_room.proofs.RuleLemmas.{Plain, rule_of, plain_of, idle_apart}

module _ {S D E H : Type 0} (m : Meaning S D E H) (head : D) where
  abbrev V : Type 0
  V = View D E H

  abbrev at_first : S → Moment E H
  at_first x = record { now = []; hold = m.holding x; raised = 0; owner = 0; out = false; who = λ n. 0; drawn = λ n. 0; version = 0; ticket = 0; serving = 0 }

  same_head : (d : D) → Some head ≡ Some d → d ≡ head
  same_head d e = sym (cc e)

  first_fits : (x : S) → Fits m head (at_first x) 0 (first_view head)
  first_fits x =
      record {
        head_is = same_head;
        own = record { seen = prefix_none []; mine = refl; last = omega arith; held = λ o e. absurd (cc e); clients = λ n a. refl };
        gathered = All-nil (IsTrueAt m head (at_first x) 0);
        told = prefix_none [];
        stands = tt;
      }

  each_fits : (x : S) (seat : ℕ) (v : V) → get_elem? (first_view head ∷ []) seat ≡ some v → Fits m head (at_first x) seat v
  each_fits x zero v e = subst (Fits m head (at_first x) 0) (some-injective (first_view head) v e) (first_fits x)
  each_fits x (suc seat) v e = absurd (some-ne-none v (sym e))

  pub opens : (x : S) → m.head x ≡ head → m.list x ≡ [] → Keeps m head (opening (0 ∷ 0 ∷ 0 ∷ []) (Some x ∷ []) (first_view head))
  opens x is empty =
      rule_of m head (at_first x) (some (Some x)) (first_view head ∷ []) record {
        ticket_fits = omega arith;
        order = omega arith;
        version_is = omega arith;
        state = inl record { x = x; is = refl; head_is = is; list_is = empty; holding_is = refl; quiet = refl; inside = refl };
        each = each_fits x;
      }

  ends_well : (t : Moment E H) (home : maybe.Option (Option S)) (views : List V) (id : ℕ) → Plain m head t home views → (h : IsHome m head t home) (k : Known E H) → IsTrueAt m head t id k → EndsWell m h.x k
  ends_well t home views id p h k known =
      let version : t.version ≡ raises m t.now + t.raised = p.version_is in
      let quiet : t.raised ≡ 0 = h.quiet in
      let last : k.last ≤ t.version = known.last in
      let lists : raises m (m.list h.x) ≡ raises m t.now = ap (raises m) h.list_is in
      record {
        seen = subst (λ (l : List E). IsPrefix k.seen l) (sym h.list_is) known.seen;
        last = omega arith;
        mine = known.mine ∙ ap (of_clients m k.low k.high) (sym h.list_is);
      }

  abbrev Closed : V → List (Option S) → Type 0
  Closed v slots = (x : S) × (get_elem? slots 0 ≡ some (Some x)) × (m.head x ≡ head) × EndsWell m x v.own × All (EndsWell m x) v.gathered

  pub closes : (id : ℕ) (v : V) (words : List ℕ) (slots : List (Option S)) → v.stage ≡ Outside → HaveAllClients v.own v.gathered → Final (Seen (Keeps m head) id v) words slots → Closed v slots
  closes id v words slots idle all final =
      let s = final.0 in
      let r = final.1.0 in
      let at = final.1.1 in
      let p = plain_of m head s r in
      let t = r.t in
      let mine = p.each id v at in
      let mine_is : (n : ℕ) → n < all_clients → t.who n ≡ id = λ n low. ⊎_elim (mine.own.clients n) (λ g. (All-contains (IsTrueAt m head t id) v.gathered g.1 mine.gathered (g.0, g.2, g.3)).clients n g.4) (all n low) in
      ⊎_elim
      (λ (h : IsHome m head t r.home). (
        h.x,
        final.4 0 (Some h.x) (ap (λ (hs : List (maybe.Option (Option S))). get_elem? hs 0) r.homes_are ∙ ap some h.is),
        h.head_is,
        ends_well t r.home s.views id p h v.own mine.own,
        All-weaker (IsTrueAt m head t id) (EndsWell m h.x) (ends_well t r.home s.views id p h) v.gathered mine.gathered,
      ))
      (λ (o : IsOut t s.views).
      let f = p.each t.owner o.v o.at in
      let n : ℕ = o.v.own.low in
      let some : n < o.v.own.high = o.some_client.0 in
      let most : o.v.own.high ≤ all_clients = o.some_client.1 in
      let same : id ≡ t.owner = sym (mine_is n (omega arith)) ∙ f.own.clients n (le_refl n, some) in
      absurd (idle_apart m head t s.views id v at idle o same))
      p.state
