-- For callers: from the entry into a turn to its end.
use Rattle.std.proofs.Common.{◌≡◌, ◌⊎◌, ℕ, ◌+◌, List, [], ◌∷◌, ◌++◌, refl, sym, ap, ◌∙◌, subst, inl, inr, arith, append-nil, Some, None, IsSome, Option}
use Rattle.std.proofs.lemmas.List.Elements.{All-nil, All-cons}
use mathlib.Core.List.{IsPrefix}
use mathlib.Core.Path.{Path}
use Rattle.atomic_table.specs.Table.{Me}
use Rattle.atomic_table.specs.declared.shared.Seat.{Seat}
use Rattle.hist_journal.specs.Meaning.{Meaning, raises}
use Rattle.version_room.specs.declared.room.Room.{Room}
use Rattle.version_room.specs.declared.turn_word.Entered.{Entered}
use Rattle.version_room.specs.declared.view.Begun.{Begun}
use Rattle.version_room.specs.declared.view.Known.{Known}
use Rattle.version_room.specs.declared.view.Stage.{Stage}
use Rattle.version_room.specs.declared.view.Stage.TheVariants.{Outside, Waiting, InTurn}
use Rattle.version_room.specs.declared.view.View.{View}
use Rattle.version_room.specs.Known.{HasClient, with_turn, StaysHeld}
use Rattle.version_room.specs.Seats.{Carries, IsOf, IsSame, head_of, known}
use Rattle.version_room.specs.Steps.{Welcomes}
use Rattle.version_room.specs.Turns.{AreOwn, Begins, Follows, HasLeft, Since, begun_of, made_of, number_of}
use Rattle.version_room.specs.Views.{staged}
use Rattle.version_room.proofs.EntryLemmas.{raises-append}
use Rattle.version_room.proofs.ListLemmas.{prefix_trans, rest_is}

module _ {S D E H : Type 0} (m : Meaning S D E H) where
  abbrev V : Type 0
  V = View D E H

  abbrev Ms : Type 0
  Ms = Me (Option S) V

  abbrev It : Type 0
  It = Seat (Option S) V

  one_state : (x y : S) → Path (List (ℕ × Option S)) ((0, Some x) ∷ []) ((0, Some y) ∷ []) → x ≡ y
  one_state x y e = let p : Path (ℕ × Option S) (0, Some x) (0, Some y) = cc e in let q : Some x ≡ Some y = ap (λ (z : ℕ × Option S). z.1) p in cc q

  abbrev emptied : Ms → Ms
  emptied me = (me.0, (0, None) ∷ [])

  -- the state waits to be taken
  pub waits : (before entered : It) → Begins m before entered → (x : S) × Carries entered.me (Some x)
  waits before entered b = (b.entry, ap (λ (y : Ms). y.1) b.turned.now_is)

  -- What `take` gave is the state at entry. The turn has raised nothing yet
  pub took : (before entered taken : It) (x : S) → Begins m before entered → Carries entered.me (Some x) → taken.me ≡ emptied entered.me → IsSame entered taken → Since m before x 0 taken × Welcomes m x (known before)
  took before entered taken x b carried is same =
      let t = b.turned in
      let one : b.entry ≡ x = one_state b.entry x (sym (ap (λ (y : Ms). y.1) t.now_is) ∙ carried) in
      subst (λ (y : S). Since m before y 0 taken × Welcomes m y (known before)) one (
        record {
          same = (same.0 ∙ t.same.0, same.1 ∙ t.same.1);
          head = t.head;
          alone = t.alone;
          begun = t.begun;
          now_is = is ∙ ap emptied t.now_is;
          list = t.list;
          holding = t.holding;
          raised = t.raised;
        },
        b.welcomes,
      )

  -- a turn is ready to be used as a word, and its number is the raises of the list at entry and its own
  pub ready_since : (before now : It) (x : S) (r : ℕ) → Since m before x r now → IsSome (begun_of now.me.0.stage)
  ready_since before now x r since = subst (λ (y : Ms). IsSome (begun_of y.0.stage)) (sym since.now_is) refl

  pub number_since : (before now : It) (x : S) (r : ℕ) → Since m before x r now → number_of m now.me.0.stage ≡ raises m (m.list x) + r
  number_since before now x r since =
      let is : number_of m now.me.0.stage ≡ raises m since.begun.list + since.begun.raised = ap (λ (y : Ms). number_of m y.0.stage) since.now_is in
      let lists : raises m since.begun.list ≡ raises m (m.list x) = ap (raises m) since.list in
      let often : since.begun.raised ≡ r = since.raised in
      omega arith

  -- the state at entry has the head of the room's state
  pub head_since : (room : Room S D E H) (before now : It) (x : S) (r : ℕ) → IsOf m room before → Since m before x r now → m.head x ≡ head_of m room
  head_since room before now x r of since = let same : Some (m.head x) ≡ Some (head_of m room) = sym since.head ∙ of.head in cc same

  abbrev turn_of : Stage E H → Begun E H → Type 0
  turn_of stage b = (c : Begun E H) × (stage ≡ InTurn c) × (c.list ≡ b.list) × (c.holding ≡ b.holding)

  in_turn : (stage : Stage E H) (b : Begun E H) → begun_of stage ≡ Some b → turn_of stage b
  in_turn Outside b e = absurd (cc e)
  in_turn (Waiting ticket) b e = absurd (cc e)
  in_turn (InTurn c) b e = let same : record c { raised = 0 } ≡ b = cc e in (c, refl, ap (λ (y : Begun E H). y.list) same, ap (λ (y : Begun E H). y.holding) same)

  abbrev with_stage : Ms → Stage E H → Ms
  with_stage me stage = (staged me.0 stage, me.1)

  -- a call that was lent the turn as a word left what it was made with as it was, and the number r' above that at entry
  pub since_lent : (before now later : It) (x : S) (r r' name name' : ℕ) → Since m before x r now → made_of name' later ≡ made_of name now → number_of m later.me.0.stage ≡ raises m (m.list x) + r' → Since m before x r' later
  since_lent before now later x r r' name name' since made number =
      let seats : record later { me = with_stage later.me Outside } ≡ record now { me = with_stage now.me Outside } = ap (λ (y : Entered S D E H). y.seat) made in
      let outside : with_stage later.me Outside ≡ (staged before.me.0 Outside, (0, None) ∷ []) = ap (λ (y : It). y.me) seats ∙ ap (λ (y : Ms). with_stage y Outside) since.now_is in
      let began : begun_of later.me.0.stage ≡ Some (record since.begun { raised = 0 }) = ap (λ (y : Entered S D E H). y.begun) made ∙ ap (λ (y : Ms). begun_of y.0.stage) since.now_is in
      let t = in_turn later.me.0.stage (record since.begun { raised = 0 }) began in
      let lists : t.0.list ≡ m.list x = t.2 ∙ since.list in
      let counted : number_of m later.me.0.stage ≡ raises m t.0.list + t.0.raised = ap (number_of m) t.1 in
      let raised : raises m t.0.list ≡ raises m (m.list x) = ap (raises m) lists in
      record {
        same = (ap (λ (y : It). y.table_id) seats ∙ since.same.0, ap (λ (y : It). y.id) seats ∙ since.same.1);
        head = since.head;
        alone = since.alone;
        begun = t.0;
        now_is = ap (λ (y : Ms). with_stage y later.me.0.stage) outside ∙ ap (λ (y : Stage E H). (staged before.me.0 y, (0, None) ∷ [])) t.1;
        list = lists;
        holding = t.3 ∙ since.holding;
        raised = omega arith;
      }

  -- after one `raise`
  pub since_raised : (before now later : It) (x : S) (r name name' : ℕ) → Since m before x r now → made_of name' later ≡ made_of name now → number_of m later.me.0.stage ≡ number_of m now.me.0.stage + 1 → Since m before x (r + 1) later
  since_raised before now later x r name name' since made up =
      let was : number_of m now.me.0.stage ≡ raises m (m.list x) + r = number_since before now x r since in
      since_lent before now later x r (r + 1) name name' since made (omega arith)

  -- the pass is again of its room, and knows its turn
  pub rested : (room : Room S D E H) (before now gone : It) (entry x : S) (r : ℕ) → IsOf m room before → Since m before entry r now → HasLeft m now x gone → IsOf m room gone × (known gone ≡ with_turn m (known before) (m.list entry) x)
  rested room before now gone entry x r of since left =
      let l = left before entry r since in (
        record {
          table = l.0.0 ∙ of.table;
          rests = (ap (λ (y : Ms). y.0.stage) l.1, ap (λ (y : Ms). y.1) l.1);
          head = ap (λ (y : Ms). y.0.head) l.1 ∙ of.head;
          alone = ap (λ (y : Ms). y.0.gathered) l.1 ∙ of.alone;
        },
        ap (λ (y : Ms). y.0.own) l.1,
      )

  -- the state may be left with more entries of the pass's own
  pub follows_more : (k : Known E H) (x y : S) (new : List E) → m.head y ≡ m.head x → m.list y ≡ m.list x ++ new → AreOwn m k new → ((h : H) → m.holding x ≡ Some h → HasClient k (m.holder h) ⊎ StaysHeld m y h) → Follows m k x (raises m new) y
  follows_more k x y new heads lists own others =
      record {
        head = heads;
        longer = (new, sym lists);
        mine = subst (AreOwn m k) (sym (rest_is (m.list x) (m.list y) (new, sym lists))) own;
        others = others;
        raised = ap (raises m) lists ∙ raises-append m (m.list x) new;
      }

  -- as with one more, behind a list that is the one at entry
  pub follows_one : (k : Known E H) (x y : S) (e : E) (list : List E) → m.head y ≡ m.head x → list ≡ m.list x → m.list y ≡ list ++ e ∷ [] → HasClient k (m.client e) → ((h : H) → m.holding x ≡ Some h → HasClient k (m.holder h) ⊎ StaysHeld m y h) → Follows m k x (raises m (e ∷ [])) y
  follows_one k x y e list heads same more own others = follows_more k x y (e ∷ []) heads (more ∙ ap (λ (l : List E). l ++ e ∷ []) same) (All-cons (λ e. HasClient k (m.client e)) e [] own (All-nil (λ e. HasClient k (m.client e)))) others

  -- and as it was taken
  pub follows_unchanged : (k : Known E H) (x y : S) → m.head y ≡ m.head x → m.list y ≡ m.list x → m.holding y ≡ m.holding x → Follows m k x 0 y
  follows_unchanged k x y heads lists holdings = follows_more k x y [] heads (lists ∙ sym (append-nil (m.list x))) (All-nil (λ e. HasClient k (m.client e))) (λ h e. inr (inl (holdings ∙ e)))

  -- what such a turn adds to the pass
  pub mine_more : (k : Known E H) (x y : S) (new : List E) → m.list y ≡ m.list x ++ new → (with_turn m k (m.list x) y).mine ≡ k.mine ++ new
  mine_more k x y new lists = ap (λ (l : List E). k.mine ++ l) (rest_is (m.list x) (m.list y) (new, sym lists))

  -- it has then seen all that it had seen
  pub seen_more : (k : Known E H) (x y : S) (r : ℕ) → Welcomes m x k → Follows m k x r y → IsPrefix k.seen (with_turn m k (m.list x) y).seen
  seen_more k x y r welcomes follows = prefix_trans k.seen (m.list x) (m.list y) welcomes.seen follows.longer
