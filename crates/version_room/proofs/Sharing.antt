-- Making a note, and giving a client number to a new pass, keep the rule.
use Rattle.std.proofs.Common.{◌≡◌, ◌≢◌, ℕ, ◌+◌, ◌<◌, ◌≤◌, le_refl, List, [], ◌∷◌, ◌++◌, All, length, set, sym, ap, ◌∙◌, subst, arith, Some, Option}
use Rattle.std.proofs.lemmas.List.Elements.{All-weaker, All-nil, All-same}
use mathlib.Core.List.{IsPrefix}
use Rattle.atomic_table.specs.Table.{Splits}
use Rattle.atomic_table.proofs.Lists.{set_again}
use Rattle.hist_journal.specs.Meaning.{Meaning, of_clients}
use Rattle.version_room.specs.declared.view.Known.{Known}
use Rattle.version_room.specs.declared.view.Stage.{Stage}
use Rattle.version_room.specs.declared.view.Stage.TheVariants.{Outside, Waiting, InTurn}
use Rattle.version_room.specs.declared.view.View.{View}
use Rattle.version_room.specs.Known.{CanSpare, begins_with}
use Rattle.version_room.specs.Rule.{Moment, Stands, Fits, IsTrueAt, Keeps}
use Rattle.version_room.specs.Views.{fresh_view, keeps_the_rest, note_view, takes_the_least}
use Rattle.version_room.proofs.Changed.{put, put_here, put_else}
use Rattle.version_room.proofs.EntryLemmas.{of_clients-none, of_clients-without, of_clients-least}
use Rattle.version_room.proofs.ListLemmas.{prefix_none}
use Rattle.version_room.proofs.RuleLemmas.{Plain, words_of, plain_of, as_in, others, state_stays, idle_apart, more}

no_number : (n : ℕ) → (0 ≤ n) × (n < 0) → ⊥
no_number n h = let below : n < 0 = h.1 in absurd (omega arith)

module _ {S D E H : Type 0} (m : Meaning S D E H) (head : D) where
  abbrev V : Type 0
  V = View D E H

  no_entries : (now : List E) → [] ≡ of_clients m 0 0 now
  no_entries now = sym (of_clients-none m 0 0 now (λ k d lt. no_number (m.client _)))

  -- one that has no client number, and has seen a beginning, knows what is true
  pub note_fits : (t : Moment E H) (seat : ℕ) (h : Option D) (seen : List E) → ((d : D) → h ≡ Some d → d ≡ head) → IsPrefix seen t.now → Fits m head t seat (fresh_view h (begins_with seen 0 0))
  note_fits t seat h seen heads pre =
      record {
        head_is = heads;
        own = record { seen = pre; mine = no_entries t.now; last = omega arith; held = λ o e. absurd (cc e); clients = λ n a. absurd (no_number n a) };
        gathered = All-nil (IsTrueAt m head t seat);
        told = prefix_none t.now;
        stands = tt;
      }

  pub tells_keeps : (id : ℕ) (v : V) → v.stage ≡ Outside → Splits (Keeps m head) id v v (note_view v)
  tells_keeps id v idle s r at =
      let p = plain_of m head s r in
      let mine = p.each id v at in
      let note : V = note_view v in
      as_in m head s.words s.homes r.t r.home (set s.views id v ++ note ∷ []) r.words_are r.homes_are (subst (λ (vs : List V). Keeps m head record { words = words_of r.t; homes = r.home ∷ []; views = vs ++ note ∷ [] }) (sym (set_again s.views id v at))
      (more m head r.t r.home s.views note p (note_fits r.t (length s.views) v.head v.own.seen mine.head_is mine.own.seen)))

  -- facts stay true where the client numbers have other owners
  pub recount : (t : Moment E H) (who : ℕ → ℕ) (j : ℕ) (k : Known E H) → ((n : ℕ) → t.who n ≡ j → who n ≡ j) → IsTrueAt m head t j k → IsTrueAt m head (record t { who = who }) j k
  recount t who j k away h = record { seen = h.seen; mine = h.mine; last = h.last; held = h.held; clients = λ n a. away n (h.clients n a) }

  pub recount_all : (t : Moment E H) (who : ℕ → ℕ) (j : ℕ) (ks : List (Known E H)) → ((n : ℕ) → t.who n ≡ j → who n ≡ j) → All (IsTrueAt m head t j) ks → All (IsTrueAt m head (record t { who = who }) j) ks
  recount_all t who j ks away h = All-weaker (IsTrueAt m head t j) (IsTrueAt m head (record t { who = who }) j) (λ k. recount t who j k away) ks h

  pub stands_recounted : (t : Moment E H) (who : ℕ → ℕ) (j : ℕ) (x : Stage E H) → Stands t j x → Stands (record t { who = who }) j x
  stands_recounted t who j Outside h = tt
  stands_recounted t who j (Waiting n) h = record { unserved = h.unserved; before = h.before; drawn = h.drawn }
  stands_recounted t who j (InTurn b) h = record { served = h.served; before = h.before; drawn = h.drawn; owner = h.owner; out = h.out; list = h.list; holding = h.holding; raised = h.raised }

  pub fits_recounted : (t : Moment E H) (who : ℕ → ℕ) (j : ℕ) (v : V) → ((n : ℕ) → t.who n ≡ j → who n ≡ j) → Fits m head t j v → Fits m head (record t { who = who }) j v
  fits_recounted t who j v away f = record { head_is = f.head_is; own = recount t who j v.own away f.own; gathered = recount_all t who j v.gathered away f.gathered; told = f.told; stands = stands_recounted t who j v.stage f.stands }

  abbrev given : Moment E H → ℕ → ℕ → Moment E H
  given t low seat = record t { who = put t.who low seat }

  -- the pass that gave its least number away
  rest_fits : (t : Moment E H) (id seat : ℕ) (v : V) → v.gathered ≡ [] → CanSpare m v.own → Fits m head t id v → Fits m head (given t v.own.low seat) id (keeps_the_rest v)
  rest_fits t id seat v alone spare f =
      let low : ℕ = v.own.low in let high : ℕ = v.own.high in
      let unused : All (λ e. m.client e ≢ low) (of_clients m low high t.now) = subst (All (λ e. m.client e ≢ low)) f.own.mine spare.unused in
      record {
        head_is = f.head_is;
        own =
            record {
              seen = f.own.seen;
              mine = f.own.mine ∙ sym (of_clients-without m low high t.now unused);
              last = f.own.last;
              held = λ o e. absurd (cc (spare.free, e));
              clients = λ n a. let above : low + 1 ≤ n = a.0 in put_else t.who low seat n (λ e. omega arith) ∙ f.own.clients n (omega arith, a.1);
            };
        gathered = All-same (IsTrueAt m head (given t low seat) id) v.gathered [] alone (All-nil (IsTrueAt m head (given t low seat) id));
        told = f.told;
        stands = stands_recounted t (put t.who low seat) id v.stage f.stands;
      }

  -- the pass that got it
  least_fits : (t : Moment E H) (id seat : ℕ) (v : V) → CanSpare m v.own → Fits m head t id v → Fits m head (given t v.own.low seat) seat (takes_the_least v)
  least_fits t id seat v spare f =
      let low : ℕ = v.own.low in let high : ℕ = v.own.high in
      let two : low + 1 < high = spare.two in
      let unused : All (λ e. m.client e ≢ low) (of_clients m low high t.now) = subst (All (λ e. m.client e ≢ low)) f.own.mine spare.unused in
      record {
        head_is = f.head_is;
        own =
            record {
              seen = f.own.seen;
              mine = sym (of_clients-least m low high t.now (omega arith) unused);
              last = omega arith;
              held = λ o e. absurd (cc e);
              clients = λ n a. let from : low ≤ n = a.0 in let below : n < low + 1 = a.1 in let same : n ≡ low = omega arith in ap (put t.who low seat) same ∙ put_here t.who low seat;
            };
        gathered = All-nil (IsTrueAt m head (given t low seat) seat);
        told = prefix_none t.now;
        stands = tt;
      }

  pub shares_keeps : (id : ℕ) (v : V) → v.stage ≡ Outside → v.gathered ≡ [] → CanSpare m v.own → Splits (Keeps m head) id v (keeps_the_rest v) (takes_the_least v)
  shares_keeps id v idle alone spare s r at =
      let p = plain_of m head s r in
      let t = r.t in
      let mine = p.each id v at in
      let low : ℕ = v.own.low in
      let two : low + 1 < v.own.high = spare.two in
      let w : V = keeps_the_rest v in
      let new : V = takes_the_least v in
      let views : List V = set s.views id w in
      let seat : ℕ = length views in
      let least : t.who low ≡ id = mine.own.clients low (le_refl low, omega arith) in
      let away : (j : ℕ) → j ≢ id → (n : ℕ) → t.who n ≡ j → put t.who low seat n ≡ j = λ j apart n e. put_else t.who low seat n (λ same. apart (sym e ∙ (ap t.who same ∙ least))) ∙ e in
      let p' : Plain m head (given t low seat) r.home views =
      record {
        ticket_fits = p.ticket_fits;
        order = p.order;
        version_is = p.version_is;
        state = state_stays m head t r.home s.views id w p.state (idle_apart m head t s.views id v at idle);
        each = others m head (given t low seat) s.views id w (λ j u apart at'. fits_recounted t (put t.who low seat) j u (away j apart) (p.each j u at')) (rest_fits t id seat v alone spare mine);
      } in
      as_in m head s.words s.homes (given t low seat) r.home (views ++ new ∷ []) r.words_are r.homes_are (more m head (given t low seat) r.home views new p' (least_fits t id seat v spare mine))
