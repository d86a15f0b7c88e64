-- Giving the state back, and letting the next in, keeps the rule.
use Rattle.std.proofs.Common.{◌≡◌, ◌≢◌, ◌⊎◌, ℕ, ◌+◌, ◌%◌, ◌^◌, ◌<◌, ◌≤◌, Bool, true, false, List, [], ◌∷◌, ◌++◌, All, length, drop, set, refl, sym, ap, ap₂, ◌∙◌, subst, ⊎_elim, inl, inr, arith, append-nil, mod-eq_of_lt, Some, None, Option}
use Rattle.std.proofs.lemmas.List.Elements.{All-weaker, All-nil, All-same}
use mathlib.Core.Option.{some}
use mathlib.Core.Option as maybe
use mathlib.Core.Path.{Path}
use lib.ListN.{get_elem?}
use Rattle.atomic_table.specs.Table.{Me, step, gives, Allows}
use Rattle.hist_journal.specs.Meaning.{Meaning, raises, of_clients, is_in}
use Rattle.version_room.specs.declared.view.Begun.{Begun}
use Rattle.version_room.specs.declared.view.Known.{Known}
use Rattle.version_room.specs.declared.view.Stage.{Stage}
use Rattle.version_room.specs.declared.view.Stage.TheVariants.{Outside, Waiting, InTurn}
use Rattle.version_room.specs.declared.view.View.{View}
use Rattle.version_room.specs.Known.{HasClient, held_if, own_holding, StaysHeld}
use Rattle.version_room.specs.Rule.{Moment, Stands, HasTurn, Fits, IsTrueAt, Keeps}
use Rattle.version_room.specs.Steps.{ends}
use Rattle.version_room.specs.Views.{after_turn}
use Rattle.version_room.proofs.EntryLemmas.{within, of_clients-append, of_clients-all, of_clients-none}
use Rattle.version_room.proofs.ListLemmas.{prefix_here, prefix_trans, rest_joins}
use Rattle.version_room.proofs.RuleLemmas.{Plain, rule_of, allows, others, turn_out}
use mathlib.Core.List.{IsPrefix}

module _ {S D E H : Type 0} (m : Meaning S D E H) where
  -- the state x may be left of the turn b
  pub record MayFollow (v : View D E H) (b : Begun E H) (x : S) : Type 0 where
    pub head_is : v.head ≡ Some (m.head x)
    pub alone : v.gathered ≡ []
    pub longer : IsPrefix b.list (m.list x)
    pub mine : All (λ e. HasClient v.own (m.client e)) (drop (length b.list) (m.list x))
    pub others : (h : H) → b.holding ≡ Some h → HasClient v.own (m.holder h) ⊎ StaysHeld m x h
    pub raised : raises m (m.list x) ≡ raises m b.list + b.raised

module _ {S D E H : Type 0} (m : Meaning S D E H) (head : D) where
  abbrev V : Type 0
  V = View D E H

  abbrev Ms : Type 0
  Ms = Me (Option S) V

  abbrev Lapses : Type 0
  Lapses = (o : H) (a b : List E) → m.lapsed o a → m.lapsed o (a ++ b)

  abbrev ended : Moment E H → S → Moment E H
  ended t x = record t { now = m.list x; hold = m.holding x; raised = 0; serving = t.serving + 1; out = false }

  -- another seat stands where it stood
  stands_ended : (t : Moment E H) (x : S) (id j : ℕ) (stage : Stage E H) → j ≢ id → t.drawn t.serving ≡ id → t.owner ≡ id → Stands t j stage → Stands (ended t x) j stage
  stands_ended t x id j Outside apart mine own h = tt
  stands_ended t x id j (Waiting n) apart mine own h =
      let a : t.serving ≤ n = h.unserved in
      let b : t.serving ≢ n = λ e. apart (sym h.drawn ∙ (ap t.drawn (sym e) ∙ mine)) in
      record { unserved = omega arith; before = h.before; drawn = h.drawn }
  stands_ended t x id j (InTurn b) apart mine own h = absurd (apart (sym h.owner ∙ own))

  -- the new entries are of nobody else
  none_of_others : (t : Moment E H) (v : V) (x : S) (id j : ℕ) (k : Known E H) → j ≢ id → IsTrueAt m head t id v.own → IsTrueAt m head t j k → (rest : List E) → All (λ e. HasClient v.own (m.client e)) rest → of_clients m k.low k.high rest ≡ []
  none_of_others t v x id j k apart own h rest mine =
      of_clients-none m k.low k.high rest (All-weaker (λ e. HasClient v.own (m.client e)) (λ e. (k.low ≤ m.client e) × (m.client e < k.high) → ⊥) (λ e c a. apart (sym (h.clients (m.client e) a) ∙ own.clients (m.client e) c)) rest mine)

  -- what was true of another pass is true of the list that is left
  true_ended : (t : Moment E H) (v : V) (b : Begun E H) (x : S) (id j : ℕ) → Lapses → j ≢ id → HasTurn t id b → IsTrueAt m head t id v.own → MayFollow m v b x → (k : Known E H) → IsTrueAt m head t j k → IsTrueAt m head (ended t x) j k
  true_ended t v b x id j lapses apart turn own go k h =
      let longer : IsPrefix t.now (m.list x) = subst (λ (l : List E). IsPrefix l (m.list x)) turn.list go.longer in
      let rest : List E = drop (length t.now) (m.list x) in
      let joins = rest_joins t.now (m.list x) longer in
      let mine : All (λ e. HasClient v.own (m.client e)) rest = subst (λ (l : List E). All (λ e. HasClient v.own (m.client e)) (drop (length l) (m.list x))) turn.list go.mine in
      let none = none_of_others t v x id j k apart own h rest mine in
      record {
        seen = prefix_trans k.seen t.now (m.list x) h.seen longer;
        mine = h.mine ∙ (sym (append-nil (of_clients m k.low k.high t.now)) ∙ (ap (λ (l : List E). of_clients m k.low k.high t.now ++ l) (sym none) ∙ (sym (of_clients-append m k.low k.high t.now rest) ∙ ap (of_clients m k.low k.high) joins)));
        last = h.last;
        held = λ o e. let a = h.held o e in (
          a.0,
          ⊎_elim
              (λ (same : t.hold ≡ Some o). ⊎_elim (λ i. absurd (apart (sym (h.clients (m.holder o) a.0) ∙ own.clients (m.holder o) i))) (λ y. y) (go.others o (turn.holding ∙ same)))
              (λ l. inr (subst (λ (z : List E). m.lapsed o z) joins (lapses o t.now rest l))) a.1,
        );
        clients = h.clients;
      }

  all_true_ended : (t : Moment E H) (v : V) (b : Begun E H) (x : S) (id j : ℕ) → Lapses → j ≢ id → HasTurn t id b → IsTrueAt m head t id v.own → MayFollow m v b x → (ks : List (Known E H)) → All (IsTrueAt m head t j) ks → All (IsTrueAt m head (ended t x) j) ks
  all_true_ended t v b x id j lapses apart turn own go ks h = All-weaker (IsTrueAt m head t j) (IsTrueAt m head (ended t x) j) (true_ended t v b x id j lapses apart turn own go) ks h

  held_own : (k : Known E H) (x h : H) (b : Bool) → is_in k.low k.high (m.holder x) ≡ b → held_if m b x ≡ Some h → HasClient k (m.holder h) × (Some x ≡ Some h)
  held_own k x h true i f = let w = within k.low k.high (m.holder x) i in let same : x ≡ h = cc f in (subst (λ (z : H). HasClient k (m.holder z)) same w, f)
  held_own k x h false i f = absurd (cc f)

  own_is : (k : Known E H) (o : Option H) (h : H) → own_holding m k o ≡ Some h → HasClient k (m.holder h) × (o ≡ Some h)
  own_is k None h e = absurd (cc e)
  own_is k (Some x) h e = held_own k x h (is_in k.low k.high (m.holder x)) refl e

  -- what is known of the pass after its own turn
  own_ended : (t : Moment E H) (v : V) (b : Begun E H) (x : S) (id : ℕ) → HasTurn t id b → IsTrueAt m head t id v.own → MayFollow m v b x → IsTrueAt m head (ended t x) id (after_turn m v b.list x).own
  own_ended t v b x id turn own go =
      let low : ℕ = v.own.low in let high : ℕ = v.own.high in
      let rest : List E = drop (length b.list) (m.list x) in
      record {
        seen = prefix_here (m.list x);
        mine =
            ap (λ (y : List E). y ++ rest) (own.mine ∙ ap (of_clients m low high) (sym turn.list))
            ∙ (ap (λ (y : List E). of_clients m low high b.list ++ y) (sym (of_clients-all m low high rest go.mine)) ∙ (sym (of_clients-append m low high b.list rest) ∙ ap (of_clients m low high) (rest_joins b.list (m.list x) go.longer)));
        last = own.last;
        held = λ o e. let a = own_is v.own (m.holding x) o e in (a.0, inl a.1);
        clients = own.clients;
      }

  abbrev done : V → List E → S → Ms
  done v l x = (after_turn m v l x, [])

  abbrev the_slot : S → List (ℕ × Option S)
  the_slot x = (0, Some x) ∷ []

  one_value : (x y : S) → the_slot x ≡ the_slot y → x ≡ y
  one_value x y e = let p : Path (ℕ × Option S) (0, Some x) (0, Some y) = cc e in let q : Some x ≡ Some y = ap (λ (z : ℕ × Option S). z.1) p in cc q

  same_end : (v : V) (b b' : Begun E H) (x x' : S) → v.stage ≡ InTurn b → v.stage ≡ InTurn b' → the_slot x ≡ the_slot x' → done v b.list x ≡ done v b'.list x'
  same_end v b b' x x' is is' e = let turns : b ≡ b' = cc (sym is ∙ is') in ap₂ (done v) (ap (λ (z : Begun E H). z.list) turns) (one_value x x' e)

  left_rule : (id : ℕ) (v : V) (x : S) (b : Begun E H) → Lapses → (t : Moment E H) (home : maybe.Option (Option S)) (views : List V) → Plain m head t home views → get_elem? views id ≡ some v → HasTurn t id b → MayFollow m v b x
      → Keeps m head record { words = t.version ∷ t.ticket ∷ (t.serving + 1) ∷ []; homes = some (Some x) ∷ []; views = set views id (after_turn m v b.list x) }
  left_rule id v x b lapses t home views p at turn go =
      let mine = p.each id v at in
      let t' : Moment E H = ended t x in
      let w : V = after_turn m v b.list x in
      let version : t.version ≡ raises m t.now + t.raised = p.version_is in
      let before : raises m b.list ≡ raises m t.now = ap (raises m) turn.list in
      let raised : raises m (m.list x) ≡ raises m b.list + b.raised = go.raised in
      let raises_are : b.raised ≡ t.raised = turn.raised in
      let served : t.serving < t.ticket = subst (λ (z : ℕ). z < t.ticket) turn.served turn.before in
      let drew : t.drawn t.serving ≡ id = ap t.drawn (sym turn.served) ∙ turn.drawn in
      let longer : IsPrefix t.now (m.list x) = subst (λ (l : List E). IsPrefix l (m.list x)) turn.list go.longer in
      let fit : Fits m head t' id w =
      record {
        head_is = mine.head_is;
        own = own_ended t v b x id turn mine.own go;
        gathered = All-same (IsTrueAt m head t' id) v.gathered [] go.alone (All-nil (IsTrueAt m head t' id));
        told = prefix_trans v.told t.now (m.list x) mine.told longer;
        stands = tt;
      } in
      rule_of m head t' (some (Some x)) (set views id w) record {
        ticket_fits = p.ticket_fits;
        order = omega arith;
        version_is = omega arith;
        state = inl record { x = x; is = refl; head_is = mine.head_is (m.head x) go.head_is; list_is = refl; holding_is = refl; quiet = refl; inside = refl };
        each = others m head t' views id w (λ j u apart at'. let f = p.each j u at' in record {
          head_is = f.head_is;
          own = true_ended t v b x id j lapses apart turn mine.own go u.own f.own;
          gathered = all_true_ended t v b x id j lapses apart turn mine.own go u.gathered f.gathered;
          told = prefix_trans u.told t.now (m.list x) f.told longer;
          stands = stands_ended t x id j u.stage apart drew turn.owner f.stands;
        }) fit;
      }

  pub ends_keeps : (slots id : ℕ) (v : V) (x : S) (b : Begun E H) → Lapses → v.stage ≡ InTurn b → MayFollow m v b x → Allows (Keeps m head) slots id (v, the_slot x) 2 (λ n. (n + 1) % 2 ^ 64) (ends m (step slots 2 1 0 maybe.none) (v, the_slot x))
  ends_keeps slots id v x b lapses is go = allows m head slots id (v, the_slot x) 2 (λ n. (n + 1) % 2 ^ 64) (ends m (step slots 2 1 0 maybe.none) (v, the_slot x)) (λ t home views p at below.
      let turn = turn_out m head t home views id v p at b is in
      let fits : t.ticket < 18446744073709551616 = p.ticket_fits in
      let order : t.serving ≤ t.ticket = p.order in
      let served : t.serving < t.ticket = subst (λ (z : ℕ). z < t.ticket) turn.served turn.before in (
        after_turn m v b.list x,
        gives,
        tt,
        subst (λ (z : ℕ). Keeps m head record { words = t.version ∷ t.ticket ∷ z ∷ []; homes = some (Some x) ∷ []; views = set views id (after_turn m v b.list x) }) (sym (mod-eq_of_lt (omega arith))) (left_rule id v x b lapses t home views p at turn go),
        λ b' x' is' e. same_end v b b' x x' is is' e,
      ))
