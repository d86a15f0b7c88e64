-- Tests that walk a list: of each element, of some place between two parts, of some element.
use Rattle.std.proofs.Common.{◌≡◌, ◌⊎◌, inl, inr, ⊎_elim, zero, suc, Bool, true, ◌&&◌, ◌||◌, List, [], ◌∷◌, ◌++◌, Contains, refl, ap, arith, append_assoc, append-nil}
use Rattle.std.specs.List.{list_all, list_any}
use Rattle.std.proofs.lemmas.Bool.{and_parts}
use Rattle.std.proofs.lemmas.List.Elements.{Contains-append_cases, Contains-append_left, Contains-append_right}
use Rattle.std.specs.Bool.{Decides}
use Rattle.std.proofs.lemmas.Bool.Decides.{Decides-and, Decides-like, Decides-or}
use Rattle.hist_journal.specs.declared.seen.EntrySeen.{EntrySeen}
use Rattle.shelf.specs.Decided.{Decided}
use Rattle.shelf.specs.Each.{Each}
use Rattle.shelf.specs.Places.{HasFront}
use Rattle.shelf.proofs.EachLemmas.{Walked, each_walked}
use Rattle.shelf.proofs.Bools.{never}
use Rattle.shelf.proofs.Tests.{like, none, yes}

module _ {X : Type 0} where
  -- of each element, with those before it
  module _ (Holds : List X → X → Type 0) (one : (before : List X) (x : X) → Decided (Holds before x)) where
    abbrev pub each_passes : List X → List X → Bool
    each_passes before [] = true
    each_passes before (x ∷ xs) = (one before x).test && each_passes (before ++ x ∷ []) xs

    walked : (before list : List X) → Decides (each_passes before list) (Walked Holds before list)
    walked before [] = (λ is. tt, λ is. refl)
    walked before (x ∷ xs) = Decides-and (one before x).test (each_passes (before ++ x ∷ []) xs) (one before x).law (walked (before ++ x ∷ []) xs)

    walked_each : (before list : List X) → ((front : List X) (x : X) (behind : List X) → list ≡ front ++ x ∷ behind → Holds (before ++ front) x) → Walked Holds before list
    walked_each before [] all = tt
    walked_each before (x ∷ xs) all =
        let here : Holds (before ++ []) x = all [] x xs refl in
        let rest : (front : List X) (y : X) (behind : List X) → xs ≡ front ++ y ∷ behind → Holds ((before ++ x ∷ []) ++ front) y =
        λ front y behind is. rw (append_assoc before (x ∷ []) front) (all (x ∷ front) y behind (ap (λ (ys : List X). x ∷ ys) is))
        in
        (rw append-nil at here, walked_each (before ++ x ∷ []) xs rest)

    pub each_law : (list : List X) → Decides (each_passes [] list) (Each Holds list)
    each_law list = Decides-like (each_passes [] list) (each_walked Holds list) (walked_each [] list) (walked [] list)

    abbrev pub each : (list : List X) → Decided (Each Holds list)
    each list = record { test = each_passes [] list; law = each_law list }

  -- two parts of the list, of which this holds
  pub record Split (Holds : List X → List X → Type 0) (list : List X) : Type 0 where
    pub front : List X
    pub back : List X
    pub is : list ≡ front ++ back
    pub holds : Holds front back

  module _ (Holds : List X → List X → Type 0) (one : (front back : List X) → Decided (Holds front back)) where
    abbrev pub split_passes : List X → List X → Bool
    split_passes before [] = (one before []).test
    split_passes before (x ∷ xs) = (one before (x ∷ xs)).test || split_passes (before ++ x ∷ []) xs

    -- of what is to be split, those stand before
    record Later (before list : List X) : Type 0 where
      front : List X
      back : List X
      is : list ≡ front ++ back
      holds : Holds (before ++ front) back

    at_end : (before front back : List X) → [] ≡ front ++ back → Holds (before ++ front) back → Holds before []
    at_end before [] back is it = let none : [] ≡ back = is in rw none (rw append-nil at it)
    at_end before (z ∷ zs) back is it = absurd (cc)

    here : (before list : List X) → Holds before list → Later before list
    here before list it = record { front = []; back = list; is = refl; holds = rw append-nil it }

    later : (before : List X) (x : X) (xs : List X) → Holds before (x ∷ xs) ⊎ Later (before ++ x ∷ []) xs → Later before (x ∷ xs)
    later before x xs (inl it) = here before (x ∷ xs) it
    later before x xs (inr rest) = record { front = x ∷ rest.front; back = rest.back; is = ap (λ (ys : List X). x ∷ ys) rest.is; holds = rw append_assoc at rest.holds }

    here_or_later : (before : List X) (x : X) (xs front back : List X) → x ∷ xs ≡ front ++ back → Holds (before ++ front) back → Holds before (x ∷ xs) ⊎ Later (before ++ x ∷ []) xs
    here_or_later before x xs [] back is it = let all : x ∷ xs ≡ back = is in inl (rw all (rw append-nil at it))
    here_or_later before x xs (z ∷ zs) back is it =
        let first : x ≡ z = cc in
        let rest : xs ≡ zs ++ back = cc in
        inr (record { front = zs; back = back; is = rest; holds = rw (first, append_assoc) it })

    later_law : (before list : List X) → Decides (split_passes before list) (Later before list)
    later_law before [] = Decides-like (one before []).test (here before []) (λ it. at_end before it.front it.back it.is it.holds) (one before []).law
    later_law before (x ∷ xs) =
        Decides-like
        (split_passes before (x ∷ xs))
        (later before x xs)
        (λ it. here_or_later before x xs it.front it.back it.is it.holds)
        (Decides-or (one before (x ∷ xs)).test (split_passes (before ++ x ∷ []) xs) (one before (x ∷ xs)).law (later_law (before ++ x ∷ []) xs))

    pub split_law : (list : List X) → Decides (split_passes [] list) (Split Holds list)
    split_law list =
        Decides-like
        (split_passes [] list)
        (λ it. record { front = it.front; back = it.back; is = it.is; holds = it.holds })
        (λ it. record { front = it.front; back = it.back; is = it.is; holds = it.holds })
        (later_law [] list)

    abbrev pub split : (list : List X) → Decided (Split Holds list)
    split list = record { test = split_passes [] list; law = split_law list }

  -- an element of the list, with those before it and those behind it
  pub record Place (Stands : List X → X → List X → Type 0) (list : List X) : Type 0 where
    pub before : List X
    pub here : X
    pub behind : List X
    pub is : list ≡ before ++ here ∷ behind
    pub stands : Stands before here behind

  module _ (Stands : List X → X → List X → Type 0) (one : (before : List X) (x : X) (behind : List X) → Decided (Stands before x behind)) where
    abbrev pub AtHead : List X → List X → Type 0
    AtHead front [] = ⊥
    AtHead front (x ∷ xs) = Stands front x xs

    abbrev pub at_head : (front back : List X) → Decided (AtHead front back)
    at_head front [] = none (λ it. it)
    at_head front (x ∷ xs) = one front x xs

    pub place_of : (list front back : List X) → list ≡ front ++ back → AtHead front back → Place Stands list
    place_of list front [] is it = absurd it
    place_of list front (x ∷ xs) is it = record { before = front; here = x; behind = xs; is = is; stands = it }

    abbrev pub some : (list : List X) → Decided (Place Stands list)
    some list =
        like (λ it. place_of list it.front it.back it.is it.holds) (λ it. record { front = it.before; back = it.here ∷ it.behind; is = it.is; holds = it.stands }) (split AtHead at_head list)

  -- an element of which this holds
  pub record Found (Holds : X → Type 0) (list : List X) : Type 0 where
    pub item : X
    pub among : Contains list item
    pub holds : Holds item

  module _ (Holds : X → Type 0) (one : (x : X) → Decided (Holds x)) where
    first : (x : X) (xs : List X) → Holds x ⊎ Found Holds xs → Found Holds (x ∷ xs)
    first x xs (inl it) = record { item = x; among = Contains-append_left (x ∷ []) xs x (0, omega arith, refl); holds = it }
    first x xs (inr it) = record { item = it.item; among = Contains-append_right (x ∷ []) xs it.item it.among; holds = it.holds }

    only : (x y : X) → Contains (x ∷ []) y → x ≡ y
    only x y (zero, low, is) = is
    only x y (suc k, low, is) = absurd (omega (arith, low))

    among_front : (x : X) (xs : List X) → Found Holds (x ∷ xs) → Holds x ⊎ Found Holds xs
    among_front x xs it =
        ⊎_elim
        (λ here. let is : x ≡ it.item = only x it.item here in inl (rw is it.holds))
        (λ there. inr (record { item = it.item; among = there; holds = it.holds }))
        (Contains-append_cases (x ∷ []) xs it.item it.among)

    pub found_law : (list : List X) → Decides (list_any (λ x. (one x).test) list) (Found Holds list)
    found_law [] = (λ is. never is, λ it. absurd (omega (arith, it.among.1)))
    found_law (x ∷ xs) = Decides-like ((one x).test || list_any (λ y. (one y).test) xs) (first x xs) (among_front x xs) (Decides-or (one x).test (list_any (λ y. (one y).test) xs) (one x).law (found_law xs))

    abbrev pub found : (list : List X) → Decided (Found Holds list)
    found list = record { test = list_any (λ x. (one x).test) list; law = found_law list }

  -- of whatever the elements name, where infinitely many could be named
  module _ {K : Type 0} (same : (a b : K) → Decided (a ≡ b)) (who : X → K) (Holds : K → Type 0) (one : (k : K) → Decided (Holds k)) where
    abbrev pub names : K → List X → Bool
    names k list = list_any (λ x. (same k (who x)).test) list

    abbrev pub named_pass : List X → Bool
    named_pass list = list_all (λ x. (one (who x)).test) list

    pub named_so : (list : List X) → named_pass list ≡ true → (k : K) → names k list ≡ true → Holds k
    named_so [] is k found = never found
    named_so (x ∷ xs) is k found =
        let parts = and_parts (one (who x)).test (named_pass xs) is in
        ⊎_elim
        (λ here. let it : k ≡ who x = (same k (who x)).law.0 here in rw it ((one (who x)).law.0 parts.0))
        (named_so xs parts.1 k)
        ((Decides-or (same k (who x)).test (names k xs) (yes (same k (who x)).test).law (yes (names k xs)).law).0 found)

    pub named_of : (list : List X) → ((k : K) → names k list ≡ true → Holds k) → named_pass list ≡ true
    named_of [] all = refl
    named_of (x ∷ xs) all =
        let either : (k : K) → Decides ((same k (who x)).test || names k xs) (((same k (who x)).test ≡ true) ⊎ (names k xs ≡ true)) =
        λ k. Decides-or (same k (who x)).test (names k xs) (yes (same k (who x)).test).law (yes (names k xs)).law
        in
        (Decides-and (one (who x)).test (named_pass xs) (one (who x)).law (yes (named_pass xs)).law).1
        (all (who x) ((either (who x)).1 (inl ((same (who x) (who x)).law.1 refl))), named_of xs (λ k there. all k ((either k).1 (inr there))))

    abbrev pub named : (list : List X) → Decided ((k : K) → names k list ≡ true → Holds k)
    named list = record { test = named_pass list; law = (named_so list, named_of list) }

-- a prefix of a history, of which this holds
abbrev pub some_front : {V T : Type 0} (Holds : List (EntrySeen V T) → Type 0) → ((front : List (EntrySeen V T)) → Decided (Holds front)) → (list : List (EntrySeen V T)) → Decided (HasFront Holds list)
some_front Holds one list =
    like
    (λ it. record { front = it.front; back = it.back; is = it.is; holds = it.holds })
    (λ it. record { front = it.front; back = it.back; is = it.is; holds = it.holds })
    (split (λ front back. Holds front) (λ front back. one front) list)
