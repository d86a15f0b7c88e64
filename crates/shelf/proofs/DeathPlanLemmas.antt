-- Which planned deaths are left.
use Rattle.std.proofs.Common.{◌≡◌, ◌∙◌, ◌+◌, ℕ, ◌==◌, Bool, true, false, ◌&&◌, ◌||◌, not, List, [], ◌∷◌, ◌++◌, cond, filter, get_or, length, take, ◌<◌, refl, sym, ap, arith}
use Rattle.std.specs.BTreeMap.{is_at}
use Rattle.std.specs.List.{list_any}
use Rattle.std.specs.declared.cmp.Ordering.{Ordering}
use Rattle.std.proofs.lemmas.Bool.{and_parts}
use Rattle.std.proofs.lemmas.Bool.Decides.{nat_tests}
use Rattle.std.proofs.lemmas.List.{take_more}
use Rattle.std.proofs.lemmas.List.Folds.{list_any-append}
use denote.Enum.Bare.{same_true, sameb}
use denote.Enum.Declared.{tag_of}
use Rattle.store_traits.specs.contracts.step.Step.{the_type}
use Rattle.store_traits.specs.declared.ids.CallId.{CallId}
use Rattle.store_traits.specs.declared.step.Step.{Step}
use Rattle.store_traits.specs.declared.step.Step.TheVariants.{I1, I2, I3, I4, I5, I6, U1, U2, U3, U4, U5, U6, U7, U8, V1, V2, V3, P1, P2, R1}
use Rattle.hist_journal.specs.Kinds.{is_call}
use Rattle.shelf.specs.contracts.store.PlannedDeathOrd.TheImpl as death_ord
use Rattle.shelf.specs.contracts.store.PlannedDeathOrd.TheImpl.Laws.{matches_eq-law}
use Rattle.shelf.specs.contracts.store.PlannedDeathPartialEq.TheImpl as death_eq
use Rattle.shelf.specs.declared.store.PlannedDeath.{PlannedDeath}
use Rattle.shelf.specs.DeathPlan.{is_one_of}
use Rattle.shelf.specs.Deaths.{step_number, strikes, used_up}
use Rattle.shelf.proofs.Bools.{never, symmetric}
use Rattle.shelf.proofs.SameCalls.{itself, same_call}

abbrev order : PlannedDeath → PlannedDeath → Ordering
order = (death_ord.ghosts).cmp

numbered : (step : Step) → step_number step ≡ tag_of the_type step + 1
numbered I1 = refl
numbered I2 = refl
numbered I3 = refl
numbered I4 = refl
numbered I5 = refl
numbered I6 = refl
numbered U1 = refl
numbered U2 = refl
numbered U3 = refl
numbered U4 = refl
numbered U5 = refl
numbered U6 = refl
numbered U7 = refl
numbered U8 = refl
numbered V1 = refl
numbered V2 = refl
numbered V3 = refl
numbered P1 = refl
numbered P2 = refl
numbered R1 = refl

same_next : (a b : ℕ) → (a == b) ≡ ((a + 1) == (b + 1))
same_next a b = grind (arith, nat_tests)

same_step : (a b : Step) → sameb the_type a b ≡ (step_number a == step_number b)
same_step a b = rw (numbered a, numbered b) (same_next (tag_of the_type a) (tag_of the_type b))

regrouped : (node client number step : Bool) → ((node && (client && number)) && step) ≡ (((node && client) && number) && step)
regrouped true client number step = refl
regrouped false client number step = refl

one_death : (q k : PlannedDeath) → (death_eq.ghosts).eq q k ≡ strikes q.call q.step k
one_death q k =
    regrouped (q.call.node.0 == k.call.node.0) (q.call.client.0 == k.call.client.0) (q.call.number == k.call.number) (sameb the_type q.step k.step)
    ∙ ap (λ b. is_call q.call k.call && b) (same_step q.step k.step)

same_death : (q k : PlannedDeath) → is_at (order q) k ≡ strikes q.call q.step k
same_death q k = sym (matches_eq-law q k) ∙ one_death q k

-- a planned death that strikes is the one of the call and the step
abbrev pub planned : CallId → Step → PlannedDeath
planned call step = record { call = call; step = step }

pub strikes_is : (call : CallId) (step : Step) (death : PlannedDeath) → strikes call step death ≡ true → death ≡ planned call step
strikes_is call step death is =
    let parts = and_parts (is_call call death.call) (step_number step == step_number death.step) is in
    let one : call ≡ death.call = same_call call death.call parts.0 in
    let two : step ≡ death.step = same_true the_type tt step death.step (same_step step death.step ∙ parts.1) in
    rw (one, two) refl

itself_struck : (death : PlannedDeath) → strikes death.call death.step death ≡ true
itself_struck death = rw (itself death.call) (numbers_same (step_number death.step))
  where
    numbers_same : (n : ℕ) → (n == n) ≡ true
    numbers_same n = grind (arith, nat_tests)

-- the keys of a set that compare equal are the deaths that it has
pub has_one : (keys : List PlannedDeath) (q : PlannedDeath) → list_any (is_at (order q)) keys ≡ is_one_of keys q
has_one [] q = refl
has_one (k ∷ ks) q = ap (λ b. b || list_any (is_at (order q)) ks) (same_death q k) ∙ ap (λ b. strikes q.call q.step k || b) (has_one ks q)

none_left : (b : Bool) → false ≡ (b && false)
none_left true = refl
none_left false = refl

-- of those that pass one test, the ones that pass another, which tells the first
any_filtered : {X : Type 0} (p f : X → Bool) (xs : List X) (b : Bool) → ((x : X) → p x ≡ true → f x ≡ b) → list_any p (filter f xs) ≡ (b && list_any p xs)
any_filtered p f [] b told = none_left b
any_filtered p f (x ∷ xs) b told = by_first (p x) refl (f x) refl b (told x) (any_filtered p f xs b told)
  where
    by_first : (px : Bool) → p x ≡ px → (fx : Bool) → f x ≡ fx → (c : Bool) → (p x ≡ true → f x ≡ c) → list_any p (filter f xs) ≡ (c && list_any p xs) → list_any p (cond fx (x ∷ filter f xs) (filter f xs)) ≡ (c && (px || list_any p xs))
    by_first false pis true fis c so rest = ap (λ b. b || list_any p (filter f xs)) pis ∙ rest
    by_first false pis false fis c so rest = rest
    by_first true pis true fis true so rest = ap (λ b. b || list_any p (filter f xs)) pis
    by_first true pis true fis false so rest = never (sym (so pis) ∙ fis)
    by_first true pis false fis true so rest = never (sym fis ∙ so pis)
    by_first true pis false fis false so rest = rest

filter_twice : {X : Type 0} (p f h : X → Bool) (xs : List X) → ((x : X) → h x ≡ cond (p x) false (f x)) → filter h xs ≡ filter (λ x. not (p x)) (filter f xs)
filter_twice p f h [] told = refl
filter_twice p f h (x ∷ xs) told = ap (λ b. cond b (x ∷ filter h xs) (filter h xs)) (told x) ∙ by_first (p x) refl (f x) (filter_twice p f h xs told)
  where
    by_first : (px : Bool) → p x ≡ px → (fx : Bool) → filter h xs ≡ filter (λ y. not (p y)) (filter f xs)
        → cond (cond px false fx) (x ∷ filter h xs) (filter h xs) ≡ filter (λ y. not (p y)) (cond fx (x ∷ filter f xs) (filter f xs))
    by_first true pis true rest = rest ∙ ap (λ b. cond (not b) (x ∷ filter (λ y. not (p y)) (filter f xs)) (filter (λ y. not (p y)) (filter f xs))) (sym pis)
    by_first true pis false rest = rest
    by_first false pis true rest = ap (λ ys. x ∷ ys) rest ∙ ap (λ b. cond (not b) (x ∷ filter (λ y. not (p y)) (filter f xs)) (filter (λ y. not (p y)) (filter f xs))) (sym pis)
    by_first false pis false rest = rest

implied : (a b : Bool) → (a ≡ true → b ≡ true) → (a && b) ≡ a
implied true b so = so refl
implied false b so = refl

abbrev pub AreOf : (keys all : List PlannedDeath) → Type 0
AreOf keys all = (death : PlannedDeath) → is_one_of keys death ≡ true → is_one_of all death ≡ true

-- the set has the death exactly where it is left
pub struck : (call : CallId) (step : Step) (keys all : List PlannedDeath) → AreOf keys all → list_any (is_at (order (planned call step))) keys ≡ list_any (strikes call step) (filter (is_one_of keys) all)
struck call step keys all are =
    let told : (death : PlannedDeath) → strikes call step death ≡ true → is_one_of keys death ≡ is_one_of keys (planned call step) = λ death is. ap (is_one_of keys) (strikes_is call step death is) in
    has_one keys (planned call step)
    ∙ (sym (implied (is_one_of keys (planned call step)) (is_one_of all (planned call step)) (are (planned call step)))
    ∙ sym (any_filtered (strikes call step) (is_one_of keys) all (is_one_of keys (planned call step)) told))

-- a set from which the death of this call and step was taken
module _ (call : CallId) (step : Step) (keys after all : List PlannedDeath) (updates : (q : PlannedDeath) → list_any (is_at (order q)) after ≡ cond (is_at (order (planned call step)) q) false (list_any (is_at (order q)) keys)) where
  taken : (q : PlannedDeath) → is_one_of after q ≡ cond (strikes call step q) false (is_one_of keys q)
  taken q = sym (has_one after q) ∙ (updates q ∙ (ap (λ b. cond b false (list_any (is_at (order q)) keys)) (same_death (planned call step) q) ∙ ap (λ b. cond (strikes call step q) false b) (has_one keys q)))

  pub left_after : filter (is_one_of after) all ≡ used_up call step (filter (is_one_of keys) all)
  left_after = filter_twice (strikes call step) (is_one_of keys) (is_one_of after) all taken

  pub are_still : AreOf keys all → AreOf after all
  are_still are death is = by_strike (strikes call step death) (sym (taken death) ∙ is)
    where
      by_strike : (b : Bool) → cond b false (is_one_of keys death) ≡ true → is_one_of all death ≡ true
      by_strike true is_so = never is_so
      by_strike false is_so = are death is_so

-- a death struck by another strikes that one
struck_back : (a b : PlannedDeath) → strikes a.call a.step b ≡ strikes b.call b.step a
struck_back a b = rw (symmetric a.call.node.0 b.call.node.0, symmetric a.call.client.0 b.call.client.0, symmetric a.call.number b.call.number, symmetric (step_number a.step) (step_number b.step)) refl

either_way : (b c : Bool) → cond b true c ≡ (c || (b || false))
either_way true true = refl
either_way true false = refl
either_way false true = refl
either_way false false = refl

-- a set to which the next death is added
pub one_of_more : (key : PlannedDeath) (keys after front : List PlannedDeath) → ((q : PlannedDeath) → list_any (is_at (order q)) after ≡ cond (is_at (order key) q) true (list_any (is_at (order q)) keys))
    → ((q : PlannedDeath) → is_one_of keys q ≡ is_one_of front q) → (q : PlannedDeath) → is_one_of after q ≡ is_one_of (front ++ key ∷ []) q
one_of_more key keys after front updates same q =
    sym (has_one after q)
    ∙ (updates q
    ∙ (ap (λ b. cond b true (list_any (is_at (order q)) keys)) (same_death key q ∙ struck_back key q)
    ∙ (ap (λ b. cond (strikes q.call q.step key) true b) (has_one keys q ∙ same q)
    ∙ (either_way (strikes q.call q.step key) (is_one_of front q) ∙ sym (list_any-append (strikes q.call q.step) front (key ∷ []))))))

-- the same in a loop over all of them
pub one_of_next : (items all : List PlannedDeath) (i : ℕ) (d : PlannedDeath) (keys after : List PlannedDeath) → items ≡ all → i < length items
    → ((q : PlannedDeath) → list_any (is_at (order q)) after ≡ cond (is_at (order (get_or items i d)) q) true (list_any (is_at (order q)) keys))
    → ((q : PlannedDeath) → is_one_of keys q ≡ is_one_of (take i all) q) → (q : PlannedDeath) → is_one_of after q ≡ is_one_of (take (i + 1) all) q
one_of_next items all i d keys after same low updates before q =
    let more : take (i + 1) all ≡ take i all ++ get_or items i d ∷ [] = ap (take (i + 1)) (sym same) ∙ (take_more items i d low ∙ ap (λ xs. take i xs ++ get_or items i d ∷ []) same) in
    one_of_more (get_or items i d) keys after (take i all) updates before q ∙ ap (λ xs. is_one_of xs q) (sym more)

also : (a b : Bool) → b ≡ true → (a || b) ≡ true
also true b is = refl
also false b is = is

-- where each of them is left, all are
pub all_left : (keys all : List PlannedDeath) → AreOf all keys → filter (is_one_of keys) all ≡ all
all_left keys [] are = refl
all_left keys (x ∷ xs) are =
    let here : is_one_of (x ∷ xs) x ≡ true = ap (λ b. b || list_any (strikes x.call x.step) xs) (itself_struck x) in
    ap (λ b. cond b (x ∷ filter (is_one_of keys) xs) (filter (is_one_of keys) xs)) (are x here)
    ∙ ap (λ ys. x ∷ ys) (all_left keys xs (λ death is. are death (also (strikes death.call death.step x) (is_one_of xs death) is)))
