-- What the types of passes and notes keep, from one view to the next.
use Rattle.std.proofs.Common.{◌≡◌, ℕ, List, [], Option, Some, sym, ap, ◌∙◌, subst, Bool, true, false, leb, length}
use Rattle.std.proofs.lemmas.Grind.{merely}
use Rattle.std.specs.Bool.{MatchBool}
use Rattle.atomic_table.specs.Table.{Me}
use Rattle.atomic_table.specs.declared.shared.Seat.{Seat}
use Rattle.hist_journal.specs.Meaning.{Meaning}
use Rattle.version_room.specs.declared.view.Stage.{Stage}
use Rattle.version_room.specs.declared.view.View.{View}
use Rattle.version_room.specs.Known.{HasSomeClient, longer_if}
use Rattle.version_room.specs.Lawful.{IsLawful}
use Rattle.version_room.specs.Steps.{Enters}
use Rattle.version_room.specs.Turns.{CanRaise, HasLeft, HasRaised, MayLeave}
use Rattle.version_room.specs.Views.{after_learning, first_view, staged}

module _ {S D E H : Type 0} (m : Meaning S D E H) where
  abbrev V : Type 0
  V = View D E H

  abbrev Ms : Type 0
  Ms = Me (Option S) V

  abbrev Lawful : V → Type 0
  Lawful v = ∥ IsLawful m v ∥₁

  abbrev Lists : Option D → List E → Type 0
  Lists o l = (head : D) → o ≡ Some head → m.lawful head l

  -- the same list under the same head
  pub still_lawful : (v w : V) → w.head ≡ v.head → w.own.seen ≡ v.own.seen → Lawful v → Lawful w
  still_lawful v w heads lists t = subst (λ (y : Option D × List E). ∥ Lists y.0 y.1 ∥₁) (λ i. (sym heads i, sym lists i)) t

  pub same_lawful : (me now : Ms) → now ≡ me → Lawful me.0 → Lawful now.0
  same_lawful me now e t = subst (λ (y : Ms). Lawful y.0) (sym e) t

  -- another stage and other slots change neither
  pub staged_lawful : (me now : Ms) (x : Stage E H) (slots : List (ℕ × Option S)) → now ≡ (staged me.0 x, slots) → Lawful me.0 → Lawful now.0
  staged_lawful me now x slots e t = same_lawful (staged me.0 x, slots) now e t

  pub staged_numbers : (me now : Ms) (x : Stage E H) (slots : List (ℕ × Option S)) → now ≡ (staged me.0 x, slots) → HasSomeClient me.0.own → HasSomeClient now.0.own
  staged_numbers me now x slots e h = subst (λ (y : Ms). HasSomeClient y.0.own) (sym e) h

  pub drawn_lawful : (b : Bool) (me now : Ms) (x : Stage E H) → MatchBool b (now ≡ (staged me.0 x, me.1)) (now ≡ me) → Lawful me.0 → Lawful now.0
  drawn_lawful true me now x e t = staged_lawful me now x me.1 e t
  drawn_lawful false me now x e t = same_lawful me now e t

  pub looked_lawful : (b : Bool) (me now : Ms) → MatchBool b (Enters m me now) (now ≡ me) → Lawful me.0 → Lawful now.0
  looked_lawful true me now e t = staged_lawful me now _ _ e.now_is t
  looked_lawful false me now e t = same_lawful me now e t

  pub looked_numbers : (b : Bool) (me now : Ms) → MatchBool b (Enters m me now) (now ≡ me) → HasSomeClient me.0.own → HasSomeClient now.0.own
  looked_numbers true me now e h = staged_numbers me now _ _ e.now_is h
  looked_numbers false me now e h = subst (λ (y : Ms). HasSomeClient y.0.own) (sym e) h

  pub raised_lawful : (me now : Ms) → CanRaise m me.0.stage → HasRaised me now → Lawful me.0 → Lawful now.0
  raised_lawful me now can raised t = staged_lawful me now _ me.1 (raised can.0 can.1) t

  pub raised_numbers : (me now : Ms) → CanRaise m me.0.stage → HasRaised me now → HasSomeClient me.0.own → HasSomeClient now.0.own
  raised_numbers me now can raised h = staged_numbers me now _ me.1 (raised can.0 can.1) h

  -- the pass has then seen the list that was left, which its state shows to be lawful
  pub left_lawful : (now gone : Seat (Option S) V) (x : S) → m.lawful (m.head x) (m.list x) → MayLeave m now x → HasLeft m now x gone → Lawful gone.me.0
  left_lawful now gone x shown may left =
      let is = (left may.before may.entry may.r may.since).1 in
      let heads : may.before.me.0.head ≡ Some (m.head x) = may.since.head ∙ ap Some (sym may.follows.head) in
      let here : Lists may.before.me.0.head (m.list x) = λ head e. let same : Some (m.head x) ≡ Some head = sym heads ∙ e in let one : m.head x ≡ head = cc same in subst (λ (d : D). m.lawful d (m.list x)) one shown in
      same_lawful _ gone.me is (merely here)

  pub left_numbers : (now gone : Seat (Option S) V) (x : S) → MayLeave m now x → HasLeft m now x gone → HasSomeClient now.me.0.own → HasSomeClient gone.me.0.own
  left_numbers now gone x may left h =
      let was : HasSomeClient may.before.me.0.own = subst (λ (y : Ms). HasSomeClient y.0.own) may.since.now_is h in
      subst (λ (y : Ms). HasSomeClient y.0.own) (sym (left may.before may.entry may.r may.since).1) was

  longer_by : (b : Bool) (head : Option D) (xs ys : List E) → ∥ Lists head xs ∥₁ → ∥ Lists head ys ∥₁ → ∥ Lists head (longer_if b xs ys) ∥₁
  longer_by true head xs ys p q = q
  longer_by false head xs ys p q = p

  pub learned_lawful : (v w : V) → v.head ≡ w.head → Lawful v → Lawful w → Lawful (after_learning (record v { told = w.own.seen }))
  learned_lawful v w heads p q = longer_by (leb (length v.own.seen) (length w.own.seen)) v.head v.own.seen w.own.seen p (subst (λ (o : Option D). ∥ Lists o w.own.seen ∥₁) (sym heads) q)

  pub first_lawful : (me : Ms) (x about : S) → me ≡ (first_view (m.head about), []) → about ≡ x → m.list x ≡ [] → m.lawful (m.head x) (m.list x) → Lawful me.0
  first_lawful me x about is same empty shown =
      let here : Lists (Some (m.head about)) [] = λ head e. let one : m.head about ≡ head = cc e in subst (λ (y : D × List E). m.lawful y.0 y.1) (λ i. ((sym (ap m.head same) ∙ one) i, empty i)) shown in
      same_lawful (first_view (m.head about), []) me is (merely here)
