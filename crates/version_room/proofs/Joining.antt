-- Giving a note to a pass, and a pass to the one that closes the room, keep the rule.
use Rattle.std.proofs.Common.{◌≡◌, ◌≢◌, ◌⊎◌, ℕ, List, [], set, sym, ◌∙◌, subst, ⊎_elim, inl, inr, None}
use Rattle.std.proofs.lemmas.List.Elements.{All-cons}
use mathlib.Core.Option.{some}
use lib.ListN.{get_elem?}
use Rattle.atomic_table.specs.Table.{Joins}
use Rattle.atomic_table.proofs.Lists.{at_set, set_else}
use Rattle.hist_journal.specs.Meaning.{Meaning}
use Rattle.version_room.specs.declared.view.Known.{Known}
use Rattle.version_room.specs.declared.view.Stage.TheVariants.{Outside}
use Rattle.version_room.specs.declared.view.View.{View}
use Rattle.version_room.specs.Rule.{Moment, Fits, IsTrueAt, IsHome, IsOut, Keeps}
use Rattle.version_room.specs.Views.{gathers, given_up, hears_of}
use Rattle.version_room.proofs.Changed.{cover, cover_in, cover_out}
use Rattle.version_room.proofs.ListLemmas.{prefix_none}
use Rattle.version_room.proofs.RuleLemmas.{plain_of, as_in, rule_of, others, state_stays, idle_apart, moves}
use Rattle.version_room.proofs.Sharing.{note_fits, recount, recount_all, fits_recounted, stands_recounted}

module _ {S D E H : Type 0} (m : Meaning S D E H) (head : D) where
  abbrev V : Type 0
  V = View D E H

  -- a seat that was given up knows nothing
  nothing_fits : (t : Moment E H) (seat : ℕ) → Fits m head t seat given_up
  nothing_fits t seat = note_fits m head t seat None [] (λ d e. absurd (cc e)) (prefix_none t.now)

  pub told_keeps : (id : ℕ) (v : V) (other : ℕ) (w : V) → v.stage ≡ Outside → w.stage ≡ Outside → Joins (Keeps m head) id v other w (hears_of v w) given_up
  told_keeps id v other w idle idle' s r at apart there =
      let p = plain_of m head s r in
      let t = r.t in
      let both : V = hears_of v w in
      let mine = p.each id v at in
      let theirs = p.each other w (sym (set_else s.views id other both apart) ∙ there) in
      let fit : Fits m head t id both = record { head_is = mine.head_is; own = mine.own; gathered = mine.gathered; told = theirs.own.seen; stands = mine.stands } in
      let views : List V = set s.views id both in
      as_in m head s.words s.homes t r.home (set views other given_up) r.words_are r.homes_are
      (rule_of m head t r.home (set views other given_up) (moves m head t r.home views other w given_up (moves m head t r.home s.views id v both p at idle fit) there idle' (nothing_fits t other)))

  abbrev handed : Moment E H → Known E H → ℕ → Moment E H
  handed t k id = record t { who = cover t.who k.low k.high id }

  -- the seat that takes in another's facts has its client numbers too
  gathers_fits : (t : Moment E H) (id other : ℕ) (v w : V) → Fits m head t id v → Fits m head t other w → Fits m head (handed t w.own id) id (gathers v w)
  gathers_fits t id other v w mine theirs =
      let who : ℕ → ℕ = cover t.who w.own.low w.own.high id in
      let here : (n : ℕ) → t.who n ≡ id → who n ≡ id = λ n e. cover_in t.who w.own.low w.own.high id n (inl e) in
      let t' : Moment E H = handed t w.own id in
      let new : IsTrueAt m head t' id w.own = record { seen = theirs.own.seen; mine = theirs.own.mine; last = theirs.own.last; held = theirs.own.held; clients = λ n a. cover_in t.who w.own.low w.own.high id n (inr a) } in
      record {
        head_is = mine.head_is;
        own = recount m head t who id v.own here mine.own;
        gathered = All-cons (IsTrueAt m head t' id) w.own v.gathered new (recount_all m head t who id v.gathered here mine.gathered);
        told = mine.told;
        stands = stands_recounted m head t who id v.stage mine.stands;
      }

  -- two seats have new views
  two_others : (t : Moment E H) (views : List V) (id other : ℕ) (both spent : V) → ((j : ℕ) (v : V) → j ≢ id → j ≢ other → get_elem? views j ≡ some v → Fits m head t j v) → Fits m head t id both → Fits m head t other spent
      → (j : ℕ) (v : V) → get_elem? (set (set views id both) other spent) j ≡ some v → Fits m head t j v
  two_others t views id other both spent rest mine theirs =
      others m head t (set views id both) other spent (λ j u off at.
      ⊎_elim
      (λ (x : (j ≡ id) × (both ≡ u)). subst (λ (y : ℕ × V). Fits m head t y.0 y.1) (λ i. (sym x.0 i, x.1 i)) mine)
      (λ (x : (j ≢ id) × (get_elem? views j ≡ some u)). rest j u x.0 off x.1)
      (at_set views id j both u at)) theirs

  pub gathers_keeps : (id : ℕ) (v : V) (other : ℕ) (w : V) → v.stage ≡ Outside → w.stage ≡ Outside → Joins (Keeps m head) id v other w (gathers v w) given_up
  gathers_keeps id v other w idle idle' s r at apart there =
      let p = plain_of m head s r in
      let t = r.t in
      let both : V = gathers v w in
      let theirs = p.each other w (sym (set_else s.views id other both apart) ∙ there) in
      let low : ℕ = w.own.low in let high : ℕ = w.own.high in
      let who : ℕ → ℕ = cover t.who low high id in
      let t' : Moment E H = handed t w.own id in
      let away : (j : ℕ) → j ≢ other → (n : ℕ) → t.who n ≡ j → who n ≡ j = λ j off n e. cover_out t.who low high id n (λ a. off (sym e ∙ theirs.own.clients n a)) ∙ e in
      let views : List V = set s.views id both in
      let state : IsHome m head t r.home ⊎ IsOut t views = state_stays m head t r.home s.views id both p.state (idle_apart m head t s.views id v at idle) in
      as_in m head s.words s.homes t' r.home (set views other given_up) r.words_are r.homes_are
      (rule_of m head t' r.home (set views other given_up) record {
        ticket_fits = p.ticket_fits;
        order = p.order;
        version_is = p.version_is;
        state = state_stays m head t r.home views other given_up state (idle_apart m head t views other w there idle');
        each = two_others t' s.views id other both given_up (λ j u _ off at'. fits_recounted m head t who j u (away j off) (p.each j u at')) (gathers_fits t id other v w (p.each id v at) theirs) (nothing_fits t' other);
      })
