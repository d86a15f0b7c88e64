-- The rule with its words and its slot spelled out, and what a step leaves alone.
use Rattle.std.proofs.Common.{◌≡◌, ◌≢◌, ◌⊎◌, ℕ, ◌+◌, ◌<◌, ◌≤◌, true, List, [], ◌∷◌, ◌++◌, length, set, refl, sym, ap, ◌∙◌, subst, ⊎_elim, inl, inr, true≢false, Option}
use mathlib.Core.Option.{some, some-injective}
use mathlib.Core.Option as maybe
use lib.ListN.{get_elem?}
use Rattle.std.specs.Prelude.{slice_index}
use Rattle.atomic_table.specs.Table.{State, Me, Act, Allows, Valid, homes_after, carried_after}
use Rattle.atomic_table.proofs.Lists.{at_set, at_longer, set_again, set_else}
use Rattle.hist_journal.specs.Meaning.{Meaning, raises}
use Rattle.version_room.specs.declared.view.Begun.{Begun}
use Rattle.version_room.specs.declared.view.Stage.{Stage}
use Rattle.version_room.specs.declared.view.Stage.TheVariants.{Outside, InTurn}
use Rattle.version_room.specs.declared.view.View.{View}
use Rattle.version_room.specs.Rule.{Moment, Stands, HasTurn, Fits, IsHome, IsOut, Keeps}
use Rattle.version_room.proofs.ListLemmas.{at_end}

abbrev pub words_of : {E H : Type 0} → Moment E H → List ℕ
words_of t = t.version ∷ t.ticket ∷ t.serving ∷ []

module _ {S D E H : Type 0} (m : Meaning S D E H) (head : D) where
  abbrev V : Type 0
  V = View D E H

  abbrev Ms : Type 0
  Ms = Me (Option S) V

  pub record Plain (t : Moment E H) (home : maybe.Option (Option S)) (views : List V) : Type 0 where
    pub ticket_fits : t.ticket < 18446744073709551616
    pub order : t.serving ≤ t.ticket
    pub version_is : t.version ≡ raises m t.now + t.raised
    pub state : IsHome m head t home ⊎ IsOut t views
    pub each : (j : ℕ) (v : V) → get_elem? views j ≡ some v → Fits m head t j v

  pub rule_of : (t : Moment E H) (home : maybe.Option (Option S)) (views : List V) → Plain t home views → Keeps m head record { words = words_of t; homes = home ∷ []; views = views }
  rule_of t home views p = record { t = t; home = home; words_are = refl; homes_are = refl; ticket_fits = p.ticket_fits; order = p.order; version_is = p.version_is; state = p.state; each = p.each }

  pub plain_of : (s : State (Option S) V) (r : Keeps m head s) → Plain r.t r.home s.views
  plain_of s r = record { ticket_fits = r.ticket_fits; order = r.order; version_is = r.version_is; state = r.state; each = r.each }

  -- the rule of a state with these words and this slot
  pub as_in : (words : List ℕ) (homes : List (maybe.Option (Option S))) (t : Moment E H) (home : maybe.Option (Option S)) (views : List V) → words ≡ words_of t → homes ≡ home ∷ []
      → Keeps m head record { words = words_of t; homes = home ∷ []; views = views } → Keeps m head record { words = words; homes = homes; views = views }
  as_in words homes t home views words_are homes_are h =
      subst (λ ws. Keeps m head record { words = ws; homes = homes; views = views }) (sym words_are)
      (subst (λ hs. Keeps m head record { words = words_of t; homes = hs; views = views }) (sym homes_are) h)

  abbrev pub Can : List ℕ → List (maybe.Option (Option S)) → List V → ℕ → Ms → ℕ → (ℕ → ℕ) → (ℕ → Ms → Type 0) → Type 0
  Can ws hs views id me i f then =
      (w : V) × (a : Act (Option S)) × Valid hs me.1 a × Keeps m head record { words = set ws i (f (slice_index ws i)); homes = homes_after hs me.1 a; views = set views id w }
      × then (slice_index ws i) (w, carried_after me.1 a)

  pub allows : (slots id : ℕ) (me : Ms) (i : ℕ) (f : ℕ → ℕ) (then : ℕ → Ms → Type 0)
      → ((t : Moment E H) (home : maybe.Option (Option S)) (views : List V) → Plain t home views → get_elem? views id ≡ some me.0 → slice_index (words_of t) i < 18446744073709551616 → Can (words_of t) (home ∷ []) views id me i f then)
      → Allows (Keeps m head) slots id me i f then
  allows slots id me i f then go s r deep at below =
      subst (λ hs. Can s.words hs s.views id me i f then) (sym r.homes_are)
      (subst (λ ws. Can ws (r.home ∷ []) s.views id me i f then) (sym r.words_are)
      (go r.t r.home s.views (plain_of s r) at (subst (λ ws. slice_index ws i < 18446744073709551616) r.words_are below)))

  -- one seat has a new view
  pub others : (t : Moment E H) (views : List V) (id : ℕ) (w : V) → ((j : ℕ) (v : V) → j ≢ id → get_elem? views j ≡ some v → Fits m head t j v) → Fits m head t id w
      → (j : ℕ) (v : V) → get_elem? (set views id w) j ≡ some v → Fits m head t j v
  others t views id w rest mine j v at =
      ⊎_elim
      (λ (x : (j ≡ id) × (w ≡ v)). subst (λ (y : ℕ × V). Fits m head t y.0 y.1) (λ i. (sym x.0 i, x.1 i)) mine)
      (λ (x : (j ≢ id) × (get_elem? views j ≡ some v)). rest j v x.0 x.1)
      (at_set views id j w v at)

  -- nothing changes
  pub stays : (t : Moment E H) (home : maybe.Option (Option S)) (views : List V) (id : ℕ) (v : V) → Plain t home views → get_elem? views id ≡ some v → Keeps m head record { words = words_of t; homes = home ∷ []; views = set views id v }
  stays t home views id v p at = subst (λ vs. Keeps m head record { words = words_of t; homes = home ∷ []; views = vs }) (sym (set_again views id v at)) (rule_of t home views p)

  -- a seat that is not the owner's leaves the state where it is
  pub state_stays : (t : Moment E H) (home : maybe.Option (Option S)) (views : List V) (id : ℕ) (w : V) → IsHome m head t home ⊎ IsOut t views → (IsOut t views → id ≢ t.owner) → IsHome m head t home ⊎ IsOut t (set views id w)
  state_stays t home views id w s apart =
      ⊎_elim inl (λ (o : IsOut t views). inr record { v = o.v; begun = o.begun; at = set_else views id t.owner w (λ e. apart o (sym e)) ∙ o.at; stage = o.stage; some_client = o.some_client; gone = o.gone }) s

  pub owner_view : (t : Moment E H) (views : List V) (id : ℕ) (v : V) → get_elem? views id ≡ some v → (o : IsOut t views) → id ≡ t.owner → v ≡ o.v
  owner_view t views id v at o e = some-injective v o.v (sym at ∙ (ap (λ (k : ℕ). get_elem? views k) e ∙ o.at))

  pub idle_apart : (t : Moment E H) (views : List V) (id : ℕ) (v : V) → get_elem? views id ≡ some v → v.stage ≡ Outside → IsOut t views → id ≢ t.owner
  idle_apart t views id v at idle o e = let same : v.stage ≡ o.v.stage = ap (λ (u : V). u.stage) (owner_view t views id v at o e) in absurd (cc (idle, same, o.stage))

  -- where the seat is in a turn, that is the turn in progress, and the state is out with it
  pub turn_out : (t : Moment E H) (home : maybe.Option (Option S)) (views : List V) (id : ℕ) (v : V) → Plain t home views → get_elem? views id ≡ some v → (b : Begun E H) → v.stage ≡ InTurn b → HasTurn t id b
  turn_out t home views id v p at b is = subst (λ (x : Stage E H). Stands t id x) is (p.each id v at).stands

  pub is_out : (t : Moment E H) (home : maybe.Option (Option S)) (views : List V) → Plain t home views → t.out ≡ true → IsOut t views
  is_out t home views p o = ⊎_elim (λ (h : IsHome m head t home). absurd (true≢false (sym o ∙ h.inside))) (λ x. x) p.state

  -- a seat that is in no turn takes a new view that fits
  pub moves : (t : Moment E H) (home : maybe.Option (Option S)) (views : List V) (id : ℕ) (v w : V) → Plain t home views → get_elem? views id ≡ some v → v.stage ≡ Outside → Fits m head t id w → Plain t home (set views id w)
  moves t home views id v w p at idle fit =
      record {
        ticket_fits = p.ticket_fits;
        order = p.order;
        version_is = p.version_is;
        state = state_stays t home views id w p.state (idle_apart t views id v at idle);
        each = others t views id w (λ j v apart at'. p.each j v at') fit;
      }

  -- a new seat comes, with a view that fits
  pub more : (t : Moment E H) (home : maybe.Option (Option S)) (views : List V) (new : V) → Plain t home views → Fits m head t (length views) new → Keeps m head record { words = words_of t; homes = home ∷ []; views = views ++ new ∷ [] }
  more t home views new p fit =
      rule_of t home (views ++ new ∷ []) record {
        ticket_fits = p.ticket_fits;
        order = p.order;
        version_is = p.version_is;
        state = ⊎_elim inl (λ (o : IsOut t views). inr record { v = o.v; begun = o.begun; at = at_longer views (new ∷ []) t.owner o.v o.at; stage = o.stage; some_client = o.some_client; gone = o.gone }) p.state;
        each = λ j v at. ⊎_elim (λ was. p.each j v was) (λ (e : (j ≡ length views) × (new ≡ v)). subst (λ (y : ℕ × V). Fits m head t y.0 y.1) (λ i. (sym e.0 i, e.1 i)) fit) (at_end views new v j at);
      }
