-- The steps as the functions call them, and what they learn.
use Rattle.std.proofs.Common.{◌≡◌, ◌≢◌, ℕ, ◌+◌, ◌%◌, ◌^◌, eqb, eq-eqb, ne_eqb, Bool, List, [], ◌∷◌, ◌++◌, All, length, drop, refl, sym, ap, ◌∙◌, subst, arith, Some, Option}
use mathlib.Core.Option as maybe
use mathlib.Core.Option.{some, some-injective}
use mathlib.Core.List.{IsPrefix}
use mathlib.Core.Path.{Path}
use lib.ListN.{get_elem?}
use Rattle.std.specs.Bool.{MatchBool}
use Rattle.atomic_table.specs.Table.{Me, step, Allows, rest, opening, Final, Seen}
use Rattle.atomic_table.specs.declared.shared.Seat.{Seat}
use Rattle.hist_journal.specs.Meaning.{Meaning, raises}
use Rattle.version_room.specs.declared.room.Room.{Room}
use Rattle.version_room.specs.declared.view.Begun.{Begun}
use Rattle.version_room.specs.declared.view.Known.{Known}
use Rattle.version_room.specs.declared.view.Stage.TheVariants.{Outside, Waiting, InTurn}
use Rattle.version_room.specs.declared.view.View.{View}
use Rattle.version_room.specs.Closing.{EndsWell, HaveAllClients}
use Rattle.version_room.specs.Known.{HasClient, HasSomeClient}
use Rattle.version_room.specs.Rule.{Keeps}
use Rattle.version_room.specs.Seats.{IsOf, IsSame}
use Rattle.version_room.specs.Steps.{Enters, ends, looks}
use Rattle.version_room.specs.Turns.{Begins, HasLeft, MayLeave, Since}
use Rattle.version_room.specs.Views.{after_turn, first_view, staged}
use Rattle.version_room.proofs.Ending.{MayFollow, ends_keeps}
use Rattle.version_room.proofs.Looking.{looks_keeps}
use Rattle.version_room.proofs.Opening.{closes, opens}

hit : (n old : ℕ) (P Q : Type 0) → n ≡ old → MatchBool (eqb n old) P Q → P
hit n old P Q e h = subst (λ (b : Bool). MatchBool b P Q) (eq-eqb n old e) h

miss : (n old : ℕ) (P Q : Type 0) → n ≢ old → MatchBool (eqb n old) P Q → Q
miss n old P Q e h = subst (λ (b : Bool). MatchBool b P Q) (ne_eqb n old e) h

module _ {S D E H : Type 0} (m : Meaning S D E H) where
  abbrev V : Type 0
  V = View D E H

  abbrev Ms : Type 0
  Ms = Me (Option S) V

  abbrev It : Type 0
  It = Seat (Option S) V

  abbrev Slots : Type 0
  Slots = List (ℕ × Option S)

  -- Where a loop waits, the seat me' of a round is the seat me of the call
  pub drew : (me me' now : Ms) (n k : ℕ) → me' ≡ me → n ≡ k → MatchBool (eqb n k) (now ≡ (staged me'.0 (Waiting k), me'.1)) (now ≡ me') → now ≡ (staged me.0 (Waiting k), me.1)
  drew me me' now n k same e h = subst (λ (y : Ms). now ≡ (staged y.0 (Waiting k), y.1)) same (hit n k _ _ e h)

  pub drew_not : (me me' now : Ms) (n k : ℕ) → me' ≡ me → n ≢ k → MatchBool (eqb n k) (now ≡ (staged me'.0 (Waiting k), me'.1)) (now ≡ me') → now ≡ me
  drew_not me me' now n k same e h = miss n k _ _ e h ∙ same

  abbrev Looks : Ms → ℕ → Ms → Type 0
  Looks me n now = (k : ℕ) → me.0.stage ≡ Waiting k → MatchBool (eqb n k) (Enters m me now) (now ≡ me)

  pub looks_as : (head : D) (slots id : ℕ) (me me' : Ms) (k : ℕ) → me' ≡ me → me.0.stage ≡ Waiting k → me.1 ≡ [] → HasSomeClient me.0.own → Allows (Keeps m head) slots id me' 2 (λ n. n) (looks m (step slots 2 0 0 maybe.none) me')
  looks_as head slots id me me' k same waiting free number = subst (λ (y : Ms). Allows (Keeps m head) slots id y 2 (λ n. n) (looks m (step slots 2 0 0 maybe.none) y)) (sym same) (looks_keeps m head slots id me k waiting free number)

  pub entered : (me me' now : Ms) (n k : ℕ) → me' ≡ me → n ≡ k → me.0.stage ≡ Waiting k → Looks me' n now → Enters m me now
  entered me me' now n k same e waiting h = hit n k _ _ e (subst (λ (y : Ms). Looks y n now) same h k waiting)

  pub entered_not : (me me' now : Ms) (n k : ℕ) → me' ≡ me → n ≢ k → me.0.stage ≡ Waiting k → Looks me' n now → now ≡ me
  entered_not me me' now n k same e waiting h = miss n k _ _ e (subst (λ (y : Ms). Looks y n now) same h k waiting)

  -- a turn began, where the pass of the room drew a ticket and then entered with it
  pub begins : (room : Room S D E H) (before now : It) (drawn : Ms) (k : ℕ) → IsOf m room before → drawn ≡ (staged before.me.0 (Waiting k), before.me.1) → Enters m drawn now.me → IsSame before now → Begins m before now
  begins room before now drawn k of is e same =
      let f : Enters m (staged before.me.0 (Waiting k), before.me.1) now.me = subst (λ (y : Ms). Enters m y now.me) is e in
      record {
        entry = f.entry;
        turned = record { same = same; head = of.head ∙ ap Some (sym (f.head _ of.head)); alone = of.alone; begun = _; now_is = f.now_is; list = refl; holding = refl; raised = refl };
        welcomes = f.welcomes;
      }

  -- what the seat has in its slot is the first of its slots
  pub carries : (slots : Slots) (x : Option S) → Path Slots slots ((0, x) ∷ []) → Path Slots slots ((0, x) ∷ rest slots)
  carries slots x e = e ∙ ap (λ (r : Slots). (0, x) ∷ r) (sym (ap (λ (y : Slots). rest y) e))

  abbrev filled : Ms → S → Ms
  filled me x = (me.0, (0, Some x) ∷ rest me.1)

  abbrev InTurnWith : It → Begun E H → S → Ms
  InTurnWith before b x = (staged before.me.0 (InTurn b), (0, Some x) ∷ [])

  refilled : (before now : It) (entry : S) (r : ℕ) (x : S) (me : Ms) (since : Since m before entry r now) → me ≡ filled now.me x → me ≡ InTurnWith before since.begun x
  refilled before now entry r x me since e = e ∙ ap (λ (y : Ms). filled y x) since.now_is

  -- the condition of leaving, in the turn's own words
  may_follow : (now : It) (x : S) (may : MayLeave m now x) → MayFollow m (staged may.before.me.0 (InTurn may.since.begun)) may.since.begun x
  may_follow now x may =
      let s = may.since in
      let f = may.follows in
      let k : Known E H = may.before.me.0.own in
      let lists : raises m s.begun.list ≡ raises m (m.list may.entry) = ap (raises m) s.list in
      let raised : raises m (m.list x) ≡ raises m (m.list may.entry) + may.r = f.raised in
      let often : s.begun.raised ≡ may.r = s.raised in
      record {
        head_is = s.head ∙ ap Some (sym f.head);
        alone = s.alone;
        longer = subst (λ (l : List E). IsPrefix l (m.list x)) (sym s.list) f.longer;
        mine = subst (λ (l : List E). All (λ e. HasClient k (m.client e)) (drop (length l) (m.list x))) (sym s.list) f.mine;
        others = λ h e. f.others h (sym s.holding ∙ e);
        raised = omega arith;
      }

  pub ends_as : (head : D) (slots id : ℕ) (now : It) (me : Ms) (x : S) → ((o : H) (a b : List E) → m.lapsed o a → m.lapsed o (a ++ b)) → MayLeave m now x → me ≡ filled now.me x
      → Allows (Keeps m head) slots id me 2 (λ n. (n + 1) % 2 ^ 64) (ends m (step slots 2 1 0 maybe.none) me)
  ends_as head slots id now me x lapses may is =
      let s = may.since in
      subst (λ (y : Ms). Allows (Keeps m head) slots id y 2 (λ n. (n + 1) % 2 ^ 64) (ends m (step slots 2 1 0 maybe.none) y)) (sym (refilled may.before now may.entry may.r x me s is))
      (ends_keeps m head slots id (staged may.before.me.0 (InTurn s.begun)) x s.begun lapses refl (may_follow now x may))

  abbrev Ended : Ms → Ms → Type 0
  Ended me last = (b : Begun E H) (x : S) → me.0.stage ≡ InTurn b → me.1 ≡ (0, Some x) ∷ [] → last ≡ (after_turn m me.0 b.list x, [])

  abbrev after : It → List E → S → Ms
  after before list x = (after_turn m before.me.0 list x, [])

  pub has_left : (now gone : It) (me : Ms) (x : S) → me ≡ filled now.me x → Ended me gone.me → IsSame now gone → HasLeft m now x gone
  has_left now gone me x is ended same before entry r since =
      let last : Ended (InTurnWith before since.begun x) gone.me = subst (λ (y : Ms). Ended y gone.me) (refilled before now entry r x me since is) ended in
      ((same.0 ∙ since.same.0, same.1 ∙ since.same.1), last since.begun x refl refl ∙ ap (λ (l : List E). after before l x) since.list)

  pub opens_as : (x about : S) (slots : List (Option S)) → about ≡ x → m.list x ≡ [] → slots ≡ Some x ∷ [] → Keeps m (m.head about) (opening (0 ∷ 0 ∷ 0 ∷ []) slots (first_view (m.head about)))
  opens_as x about slots same empty is =
      subst (λ (l : List (Option S)). Keeps m (m.head about) (opening (0 ∷ 0 ∷ 0 ∷ []) l (first_view (m.head about)))) (sym is) (opens m (m.head about) x (ap m.head (sym same)) empty)

  abbrev ClosedAs : D → Known E H → List (Known E H) → Option S → Type 0
  ClosedAs head own others slot = (x : S) × (slot ≡ Some x) × (m.head x ≡ head) × EndsWell m x own × All (EndsWell m x) others

  pub closes_as : (head : D) (id : ℕ) (v : V) (words : List ℕ) (slots : List (Option S)) (own : Known E H) (others : List (Known E H)) (slot : Option S) → v.stage ≡ Outside → v.own ≡ own → v.gathered ≡ others → HaveAllClients own others
      → Final (Seen (Keeps m head) id v) words slots → get_elem? slots 0 ≡ some slot → ClosedAs head own others slot
  closes_as head id v words slots own others slot idle same gathered all final at =
      let f = closes m head id v words slots idle (subst (λ (y : Known E H × List (Known E H)). HaveAllClients y.0 y.1) (λ i. (sym same i, sym gathered i)) all) final in (
        f.0,
        some-injective slot (Some f.0) (sym at ∙ f.1),
        f.2,
        subst (EndsWell m f.0) same f.3,
        subst (All (EndsWell m f.0)) gathered f.4,
      )

  same_state : (x y : S) (slot : Option S) → slot ≡ Some x → slot ≡ Some y → x ≡ y
  same_state x y slot e f = let g : Some x ≡ Some y = sym e ∙ f in cc g

  -- what is so of the state that the slot has
  pub closed_at : (head : D) (own : Known E H) (others : List (Known E H)) (slot : Option S) (x : S) → ClosedAs head own others slot → slot ≡ Some x → (m.head x ≡ head) × EndsWell m x own × All (EndsWell m x) others
  closed_at head own others slot x f e = subst (λ (y : S). (m.head y ≡ head) × EndsWell m y own × All (EndsWell m y) others) (same_state f.0 x slot f.1 e) (f.2, f.3, f.4)
