-- A node table in which what is known of one node is changed, or to which a node is added.
use Rattle.std.proofs.Common.{◌≡◌, ◌∙◌, ◌<◌, ◌+◌, ℕ, zero, suc, Bool, true, false, ◌||◌, not, List, [], ◌∷◌, ◌++◌, Option, Some, None, length, get_or, refl, sym, ap, arith, position, ◌==◌, cond, nat_lt}
use Rattle.std.proofs.lemmas.Bool.{false_from_ne_true}
use Rattle.std.proofs.lemmas.Bool.Decides.{nat_tests}
use Rattle.std.proofs.Math.ListN.{set}
use Rattle.std.specs.List.{list_any, position_or_len}
use Rattle.std.specs.Option.{option_map}
use Rattle.std.proofs.lemmas.List.Quantifiers.{position-Some}
use Rattle.std.proofs.lemmas.List.Sums.{sum_by-cons, sum_by_push}
use Rattle.store_traits.specs.declared.ids.NodeId.{NodeId}
use Rattle.hist_journal.specs.Kinds.{is_node}
use Rattle.shelf.specs.declared.node_table.NodeState.{NodeState}
use Rattle.shelf.specs.NodeStates.{changed, dead_by, has_dead, has_node, ids, killed, living, revived, state_of}
use Rattle.shelf.proofs.Bools.{never, symmetric}
use Rattle.shelf.proofs.SameCalls.{same_node}

abbrev named : NodeId → NodeState → Bool
named node state = is_node state.id node

before_end : (passes rest : Bool) (n len : ℕ) → (passes || rest) ≡ true → (rest ≡ true → n < len) → cond (not passes) (1 + n) 0 < suc len
before_end true rest n len is goes = omega arith
before_end false rest n len is goes = omega (arith, goes is)

is_before_end : {X : Type 0} (p : X → Bool) (xs : List X) → list_any p xs ≡ true → position_or_len p xs < length xs
is_before_end p [] is = never is
is_before_end p (x ∷ xs) is = before_end (p x) (list_any p xs) (position_or_len p xs) (length xs) is (is_before_end p xs)

-- a node that is there is found
none_is_found : {X : Type 0} (node : NodeId) (states : List NodeState) → position (named node) states ≡ None → has_node node states ≡ true → X
none_is_found node states is there =
    let within = is_before_end (named node) states there in
    let test : nat_lt (position_or_len (named node) states) (length states) ≡ true = grind (arith, nat_tests, within) in
    let found_so = ap (λ b. cond b (Some (position_or_len (named node) states)) None) test in
    absurd (let no : Some (position_or_len (named node) states) ≡ None = sym found_so ∙ is in cc)

-- how many a node adds to those that live
abbrev lives : NodeState → ℕ
lives state = cond (not state.is_dead) 1 0

living-cons : (s : NodeState) (ss : List NodeState) → living (s ∷ ss) ≡ lives s + living ss
living-cons s ss = sum_by-cons lives s ss

other_head : (a b rest less more : ℕ) → a + less ≡ b + more → (a + rest) + less ≡ (b + rest) + more
other_head a b rest less more is = omega arith

other_rest : (head a b less more : ℕ) → a + less ≡ b + more → (head + a) + less ≡ (head + b) + more
other_rest head a b less more is = omega arith

module _ (node : NodeId) (change : NodeState → NodeState) where
  -- a write at the first place of the node
  first_changed : (states : List NodeState) (i : ℕ) (d : NodeState) → i < length states → named node (get_or states i d) ≡ true → ((k : ℕ) → k < i → named node (get_or states k d) ≡ false)
      → set states i (change (get_or states i d)) ≡ changed node change states
  first_changed [] i d within is others = absurd (omega arith)
  first_changed (s ∷ ss) zero d within is others = ap (λ b. cond b (change s ∷ ss) (s ∷ changed node change ss)) (sym is)
  first_changed (s ∷ ss) (suc i) d within is others =
      ap (λ xs. s ∷ xs) (first_changed ss i d (omega arith) is (λ k low. others (suc k) (omega arith)))
      ∙ ap (λ b. cond b (change s ∷ ss) (s ∷ changed node change ss)) (sym (others 0 (omega arith)))

  -- a table that lacks the node stays
  none_changed : (states : List NodeState) → has_node node states ≡ false → changed node change states ≡ states
  none_changed [] none = refl
  none_changed (s ∷ ss) none = by_head (named node s) none (λ is. none_changed ss is)
    where
      by_head : (b : Bool) → (b || has_node node ss) ≡ false → (has_node node ss ≡ false → changed node change ss ≡ ss) → cond b (change s ∷ ss) (s ∷ changed node change ss) ≡ s ∷ ss
      by_head true is rest = never (sym is)
      by_head false is rest = ap (λ xs. s ∷ xs) (rest is)

  -- the write at the place that was found, of what was read there
  pub changed_at : (states now : List NodeState) (i : ℕ) (d : NodeState) → states ≡ now → position (named node) now ≡ Some i → d ≡ get_or states i d → set states i (change d) ≡ changed node change now
  changed_at states now i d same is at =
      let there = position-Some (named node) states i d (ap (position (named node)) same ∙ is) in
      ap (λ x. set states i (change x)) at ∙ (first_changed states i d there.0 there.1 there.2 ∙ ap (changed node change) same)

  pub unchanged : (now : List NodeState) → position (named node) now ≡ None → now ≡ changed node change now
  unchanged now is = sym (none_changed now (false_from_ne_true (has_node node now) (λ there. none_is_found node now is there)))

  module _ (same : (state : NodeState) → (change state).id ≡ state.id) where
    pub ids-changed : (states : List NodeState) → ids (changed node change states) ≡ ids states
    ids-changed [] = refl
    ids-changed (s ∷ ss) = by_head (named node s) (ids-changed ss)
      where
        by_head : (b : Bool) → ids (changed node change ss) ≡ ids ss → ids (cond b (change s ∷ ss) (s ∷ changed node change ss)) ≡ s.id ∷ ids ss
        by_head true rest = ap (λ id. id ∷ ids ss) (same s)
        by_head false rest = ap (λ names. s.id ∷ names) rest

    -- what is known of the node now
    pub state_of-changed : (states : List NodeState) → state_of node (changed node change states) ≡ option_map change (state_of node states)
    state_of-changed [] = refl
    state_of-changed (s ∷ ss) = by_head (named node s) refl (state_of-changed ss)
      where
        by_head : (b : Bool) → named node s ≡ b → state_of node (changed node change ss) ≡ option_map change (state_of node ss) → state_of node (cond b (change s ∷ ss) (s ∷ changed node change ss)) ≡ option_map change (cond b (Some s) (state_of node ss))
        by_head true is rest = ap (λ id. cond (is_node id node) (Some (change s)) (state_of node ss)) (same s) ∙ ap (λ b. cond b (Some (change s)) (state_of node ss)) is
        by_head false is rest = ap (λ b. cond b (Some s) (state_of node (changed node change ss))) is ∙ rest

    another : (a other : ℕ) → (a == node.0) ≡ true → (node.0 == other) ≡ false → (a == other) ≡ false
    another a other is apart = grind (arith, nat_tests)

    -- and of another node
    pub state_of-other : (other : NodeId) → is_node node other ≡ false → (states : List NodeState) → state_of other (changed node change states) ≡ state_of other states
    state_of-other other apart [] = refl
    state_of-other other apart (s ∷ ss) = by_head (named node s) refl (state_of-other other apart ss)
      where
        by_head : (b : Bool) → named node s ≡ b → state_of other (changed node change ss) ≡ state_of other ss → state_of other (cond b (change s ∷ ss) (s ∷ changed node change ss)) ≡ cond (named other s) (Some s) (state_of other ss)
        by_head true is rest =
            let no = another s.id.0 other.0 is apart in
            ap (λ id. cond (is_node id other) (Some (change s)) (state_of other ss)) (same s)
            ∙ (ap (λ b. cond b (Some (change s)) (state_of other ss)) no ∙ sym (ap (λ b. cond b (Some s) (state_of other ss)) no))
        by_head false is rest = ap (λ found. cond (named other s) (Some s) found) rest

  living-changed : (states : List NodeState) (more less : ℕ) → ((state : NodeState) → state_of node states ≡ Some state → lives (change state) + less ≡ lives state + more) → (state : NodeState) → state_of node states ≡ Some state
      → living (changed node change states) + less ≡ living states + more
  living-changed [] more less weighs state is = absurd (cc)
  living-changed (s ∷ ss) more less weighs state is = by_head (named node s) weighs is (living-changed ss more less)
    where
      by_head : (b : Bool) → ((x : NodeState) → cond b (Some s) (state_of node ss) ≡ Some x → lives (change x) + less ≡ lives x + more) → cond b (Some s) (state_of node ss) ≡ Some state
          → (((x : NodeState) → state_of node ss ≡ Some x → lives (change x) + less ≡ lives x + more) → (x : NodeState) → state_of node ss ≡ Some x → living (changed node change ss) + less ≡ living ss + more)
          → living (cond b (change s ∷ ss) (s ∷ changed node change ss)) + less ≡ living (s ∷ ss) + more
      by_head true so there rest = ap (λ n. n + less) (living-cons (change s) ss) ∙ (other_head (lives (change s)) (lives s) (living ss) less more (so s refl) ∙ ap (λ n. n + more) (sym (living-cons s ss)))
      by_head false so there rest = ap (λ n. n + less) (living-cons s (changed node change ss)) ∙ (other_rest (lives s) (living (changed node change ss)) (living ss) less more (rest so state there) ∙ ap (λ n. n + more) (sym (living-cons s ss)))

-- what is known of a node that is there, or dead
known : (node : NodeId) (states : List NodeState) → has_node node states ≡ true → (state : NodeState) × (state_of node states ≡ Some state)
known node [] there = never there
known node (s ∷ ss) there = by_head (named node s) there (known node ss)
  where
    by_head : (b : Bool) → (b || has_node node ss) ≡ true → (has_node node ss ≡ true → (state : NodeState) × (state_of node ss ≡ Some state)) → (state : NodeState) × (cond b (Some s) (state_of node ss) ≡ Some state)
    by_head true is rest = (s, refl)
    by_head false is rest = rest is

known_dead : (node : NodeId) (states : List NodeState) → has_dead node states ≡ true → (state : NodeState) × (state_of node states ≡ Some state)
known_dead node states dead = by_state (state_of node states) dead
  where
    by_state : (o : Option NodeState) → dead_by o ≡ true → (state : NodeState) × (o ≡ Some state)
    by_state None is = never is
    by_state (Some state) is = (state, refl)

dead_as : (o : Option NodeState) (state : NodeState) (b : Bool) → o ≡ Some state → dead_by o ≡ b → state.is_dead ≡ b
dead_as o state b is dead = ap dead_by (sym is) ∙ dead

-- a node less lives
pub living-killed : (node : NodeId) (place : ℕ) (states : List NodeState) → has_node node states ≡ true → has_dead node states ≡ false → living (changed node (killed place) states) + 1 ≡ living states
living-killed node place states there alive =
    let state = known node states there in
    living-changed node (killed place) states 0 1 (λ x is. let lives : x.is_dead ≡ false = dead_as (state_of node states) x false is alive in rw lives refl) state.0 state.1 ∙ omega arith

-- a node more lives
pub living-revived : (node : NodeId) (states : List NodeState) → has_dead node states ≡ true → living (changed node revived states) ≡ living states + 1
living-revived node states dead =
    let state = known_dead node states dead in
    let one = living-changed node revived states 1 0 (λ x is. let died : x.is_dead ≡ true = dead_as (state_of node states) x true is dead in rw died refl) state.0 state.1 in
    omega (arith, one)

-- as many live
pub living-same : (node : NodeId) (change : NodeState → NodeState) → ((state : NodeState) → (change state).is_dead ≡ state.is_dead) → (states : List NodeState) → living (changed node change states) ≡ living states
living-same node change same [] = refl
living-same node change same (s ∷ ss) = by_head (named node s) (living-same node change same ss)
  where
    by_head : (b : Bool) → living (changed node change ss) ≡ living ss → living (cond b (change s ∷ ss) (s ∷ changed node change ss)) ≡ living (s ∷ ss)
    by_head true rest = living-cons (change s) ss ∙ (ap (λ b. cond (not b) 1 0 + living ss) (same s) ∙ sym (living-cons s ss))
    by_head false rest = living-cons s (changed node change ss) ∙ (ap (λ n. lives s + n) rest ∙ sym (living-cons s ss))

-- a new node lives, and nothing more is known of it
abbrev pub unknown : NodeId → NodeState
unknown node = record { id = node; is_ready = false; is_dead = false; died = None }

module _ (added : NodeId) where
  pub living-push : (states : List NodeState) → living (states ++ unknown added ∷ []) ≡ living states + 1
  living-push states = sum_by_push lives states (unknown added)

  module _ {X : Type 0} (known_by : Option NodeState → X) (nothing : known_by (Some (unknown added)) ≡ known_by None) where
    pub known-push : (node : NodeId) (states : List NodeState) → known_by (state_of node (states ++ unknown added ∷ [])) ≡ known_by (state_of node states)
    known-push node [] = by_test (is_node added node)
      where
        by_test : (b : Bool) → known_by (cond b (Some (unknown added)) None) ≡ known_by None
        by_test true = nothing
        by_test false = refl
    known-push node (s ∷ ss) = by_head (named node s) (known-push node ss)
      where
        by_head : (b : Bool) → known_by (state_of node (ss ++ unknown added ∷ [])) ≡ known_by (state_of node ss) → known_by (cond b (Some s) (state_of node (ss ++ unknown added ∷ []))) ≡ known_by (cond b (Some s) (state_of node ss))
        by_head true rest = refl
        by_head false rest = rest

-- what is known of each node, once something of one is changed
module _ {X : Type 0} (known_by : Option NodeState → X) (node : NodeId) (change : NodeState → NodeState) (same : (state : NodeState) → (change state).id ≡ state.id) (states : List NodeState) where
  pub known-changed : (now : X) → known_by (option_map change (state_of node states)) ≡ now → (n : NodeId) → known_by (state_of n (changed node change states)) ≡ cond (is_node n node) now (known_by (state_of n states))
  known-changed now is n = by_node (is_node n node) refl
    where
      by_node : (b : Bool) → is_node n node ≡ b → known_by (state_of n (changed node change states)) ≡ cond b now (known_by (state_of n states))
      by_node true own = let here : n ≡ node = same_node n node own in rw here (ap known_by (state_of-changed node change same states) ∙ is)
      by_node false apart = ap known_by (state_of-other node change same n (symmetric node.0 n.0 ∙ apart) states)

  pub known-kept : ((state : NodeState) → known_by (Some (change state)) ≡ known_by (Some state)) → (n : NodeId) → known_by (state_of n (changed node change states)) ≡ known_by (state_of n states)
  known-kept kept n = by_node (is_node n node) refl
    where
      by_state : (o : Option NodeState) → known_by (option_map change o) ≡ known_by o
      by_state None = refl
      by_state (Some state) = kept state

      by_node : (b : Bool) → is_node n node ≡ b → known_by (state_of n (changed node change states)) ≡ known_by (state_of n states)
      by_node true own = let here : n ≡ node = same_node n node own in rw here (ap known_by (state_of-changed node change same states) ∙ by_state (state_of node states))
      by_node false apart = ap known_by (state_of-other node change same n (symmetric node.0 n.0 ∙ apart) states)

-- of a node that is there
pub known_there : {X : Type 0} (known_by : Option NodeState → X) (change : NodeState → NodeState) (now : X) → ((state : NodeState) → known_by (Some (change state)) ≡ now) → (node : NodeId) (states : List NodeState) → has_node node states ≡ true
    → known_by (option_map change (state_of node states)) ≡ now
known_there known_by change now is node states there =
    let state = known node states there in
    ap (λ o. known_by (option_map change o)) state.1 ∙ is state.0

-- a dead node is there
pub dead_is_there : (node : NodeId) (states : List NodeState) → has_dead node states ≡ true → has_node node states ≡ true
dead_is_there node [] dead = never dead
dead_is_there node (s ∷ ss) dead = by_head (named node s) dead (dead_is_there node ss)
  where
    by_head : (b : Bool) → dead_by (cond b (Some s) (state_of node ss)) ≡ true → (has_dead node ss ≡ true → has_node node ss ≡ true) → (b || has_node node ss) ≡ true
    by_head true is rest = refl
    by_head false is rest = rest is
