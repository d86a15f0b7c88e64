-- The last of each key: what a stable sort of the turned list and the loss of repeated keys leave.
use Rattle.std.proofs.Common.{◌≡◌, ℕ, zero, suc, ◌+◌, Bool, true, false, List, [], ◌∷◌, get_or, Option, Some, None, refl, sym, ◌∙◌, ap, subst, arith, All, ◌||◌, reverse, is_some, if◌then◌else◌}
use Rattle.std.specs.List.{filter, dedup, dedup_from, list_any, Contains}
use Rattle.std.specs.List.Sorted.{IsSortedBy, IsStableBy, ties}
use Rattle.std.specs.Ordering.{is_lt, is_eq}
use Rattle.std.specs.declared.cmp.Ordering.{Ordering}
use Rattle.std.specs.declared.cmp.Ordering.TheVariants.{Less, Equal, Greater}
use Rattle.std.proofs.lemmas.Cmp.{nat_list_cmp_total, tied_back}
use Rattle.std.proofs.lemmas.List.Elements.{All-head, All-tail, All-contains, All-contains_itself}
use Rattle.std.proofs.lemmas.List.Sorted.{list_any-IsPermutation, IsPermutation-reverse}
use Rattle.std.proofs.lemmas.Option.{none-some, same_Some}
use Rattle.prefs_model.specs.Rising.{key_cmp, IsBelow, IsRising, value_under, has_key}
use Rattle.prefs_model.proofs.Rising.{each_found}
use Rattle.prefs_model.proofs.Keys.{key_cmp_same, same_from_is_eq, less_from_greater}

module _ {X : Type 0} (key_of : X → List ℕ) where
  abbrev pub has_lesser : X → X → Bool
  has_lesser a b = is_lt (key_cmp (key_of a) (key_of b))

  abbrev pub has_same : X → X → Bool
  has_same a b = is_eq (key_cmp (key_of a) (key_of b))

  -- no key is less than the one before it, nor is the first less than this one
  abbrev NeverFalls : List ℕ → List X → Type 0
  NeverFalls key [] = Unit {0}
  NeverFalls key (item ∷ items) = (is_lt (key_cmp (key_of item) key) ≡ false) × NeverFalls (key_of item) items

  never_falls_from_sorted : (first : X) (items : List X) → IsSortedBy has_lesser (first ∷ items) → NeverFalls (key_of first) items
  never_falls_from_sorted first [] sorted = tt
  never_falls_from_sorted first (item ∷ items) sorted = (
    sorted 0 first (omega arith) (omega arith),
    never_falls_from_sorted item items (λ k d from lt.
        subst (λ n. has_lesser (get_or (first ∷ item ∷ items) n d) (get_or (item ∷ items) k d) ≡ false) {x = suc k + 1} {y = suc (k + 1)} (omega arith) (sorted (suc k) d (omega arith) (omega arith))),
  )

  -- the first item stays
  IsBelow-dedup_from : (key : List ℕ) (first : X) (items : List X) → key_cmp key (key_of first) ≡ Less → IsBelow key_of key (dedup_from has_same first items)
  IsBelow-dedup_from key first [] less = less
  IsBelow-dedup_from key first (item ∷ items) less =
      elim (has_same item first) as (λ b. IsBelow key_of key (if b then dedup_from has_same first items else first ∷ dedup_from has_same item items)) [
        | true ↦ IsBelow-dedup_from key first items less
        | false ↦ less
      ]

  less_by : (order : Ordering) (a b : List ℕ) → key_cmp b a ≡ order → is_lt order ≡ false → is_eq order ≡ false → key_cmp a b ≡ Less
  less_by Less a b is not_less differs = cc
  less_by Equal a b is not_less differs = cc
  less_by Greater a b is not_less differs = less_from_greater b a is

  dedup_rises : (b : Bool) (first item : X) (items : List X) → has_same item first ≡ b → NeverFalls (key_of first) (item ∷ items) → (NeverFalls (key_of first) items → IsRising key_of (dedup_from has_same first items)) → IsRising key_of (dedup_from has_same item items) → IsRising key_of (if b then dedup_from has_same first items else first ∷ dedup_from has_same item items)
  dedup_rises true first item items same falls dropped kept =
      dropped (subst (λ key. NeverFalls key items) (same_from_is_eq (key_of item) (key_of first) same) falls.1)
  dedup_rises false first item items same falls dropped kept =
      (IsBelow-dedup_from (key_of first) item items (less_by (key_cmp (key_of item) (key_of first)) (key_of first) (key_of item) refl falls.0 same), kept)

  IsRising-dedup_from : (first : X) (items : List X) → NeverFalls (key_of first) items → IsRising key_of (dedup_from has_same first items)
  IsRising-dedup_from first [] falls = (tt, tt)
  IsRising-dedup_from first (item ∷ items) falls = dedup_rises _ first item items refl falls (IsRising-dedup_from first items) (IsRising-dedup_from item items falls.1)

  pub IsRising-dedup : (items : List X) → IsSortedBy has_lesser items → IsRising key_of (dedup has_same items)
  IsRising-dedup [] sorted = tt
  IsRising-dedup (first ∷ items) sorted = IsRising-dedup_from first items (never_falls_from_sorted first items sorted)

  abbrev At : List X → List ℕ → Option X
  At items key = value_under key_of (λ item. item) items key

  -- a second item with the key of the first is never found
  dropped_value : (b : Bool) (first item : X) (items : List X) (key : List ℕ) → key_of item ≡ key_of first → is_eq (key_cmp key (key_of first)) ≡ b → At (first ∷ items) key ≡ At (first ∷ item ∷ items) key
  dropped_value true first item items key same is = rw is
  dropped_value false first item items key same is = rw (is, same, is)

  value_kept : (b : Bool) (first item : X) (items : List X) (key : List ℕ) → has_same item first ≡ b → At (dedup_from has_same first items) key ≡ At (first ∷ items) key → At (dedup_from has_same item items) key ≡ At (item ∷ items) key → At (if b then dedup_from has_same first items else first ∷ dedup_from has_same item items) key ≡ At (first ∷ item ∷ items) key
  value_kept true first item items key same dropped kept = dropped ∙ dropped_value _ first item items key (same_from_is_eq (key_of item) (key_of first) same) refl
  value_kept false first item items key same dropped kept = ap (λ rest. if is_eq (key_cmp key (key_of first)) then Some first else rest) kept

  value_under-dedup_from : (first : X) (items : List X) (key : List ℕ) → At (dedup_from has_same first items) key ≡ At (first ∷ items) key
  value_under-dedup_from first [] key = refl
  value_under-dedup_from first (item ∷ items) key = value_kept _ first item items key refl (value_under-dedup_from first items key) (value_under-dedup_from item items key)

  pub value_under-dedup : (items : List X) (key : List ℕ) → At (dedup has_same items) key ≡ At items key
  value_under-dedup [] key = refl
  value_under-dedup (first ∷ items) key = value_under-dedup_from first items key

  found_key_by : (b : Bool) (first : X) (items : List X) (key : List ℕ) (item : X) → is_eq (key_cmp key (key_of first)) ≡ b → (if b then Some first else At items key) ≡ Some item → (At items key ≡ Some item → key_of item ≡ key) → key_of item ≡ key
  found_key_by true first items key item is found behind = sym (same_from_is_eq key (key_of first) is ∙ ap key_of (same_Some first item found))
  found_key_by false first items key item is found behind = behind found

  -- an item that is found has the key
  pub found_key : (items : List X) (key : List ℕ) (item : X) → At items key ≡ Some item → key_of item ≡ key
  found_key [] key item found = absurd (none-some item found)
  found_key (first ∷ items) key item found = found_key_by _ first items key item refl found (found_key items key item)

  found_holds_by : (P : X → Type 0) (b : Bool) (first : X) (items : List X) (key : List ℕ) (item : X) → P first → (if b then Some first else At items key) ≡ Some item → (At items key ≡ Some item → P item) → P item
  found_holds_by P true first items key item here found behind = subst P (same_Some first item found) here
  found_holds_by P false first items key item here found behind = behind found

  -- an item that is found has what all have
  pub found_holds : (P : X → Type 0) (items : List X) (key : List ℕ) (item : X) → All P items → At items key ≡ Some item → P item
  found_holds P [] key item all found = absurd (none-some item found)
  found_holds P (first ∷ items) key item all found =
      found_holds_by P (is_eq (key_cmp key (key_of first))) first items key item (All-head P first items all) found (found_holds P items key item (All-tail P first items all))

  abbrev first_of : List X → Option X
  first_of [] = None
  first_of (item ∷ items) = Some item

  tied_by : (order : Ordering) (item first : X) (items : List X) → key_cmp (key_of item) (key_of first) ≡ order → At items (key_of item) ≡ first_of (filter (ties has_lesser item) items) → At (first ∷ items) (key_of item) ≡ first_of (filter (ties has_lesser item) (first ∷ items))
  tied_by Less item first items is behind = rw is behind
  tied_by Equal item first items is behind = rw (is, tied_back nat_list_cmp_total (key_of item) (key_of first) is)
  tied_by Greater item first items is behind = rw (is, less_from_greater (key_of item) (key_of first) is) behind

  -- the item that is found is the first of those that tie
  first_tied : (item : X) (items : List X) → At items (key_of item) ≡ first_of (filter (ties has_lesser item) items)
  first_tied item [] = refl
  first_tied item (first ∷ items) = tied_by _ item first items refl (first_tied item items)

  same_at_item : (item : X) (xs ys : List X) → IsStableBy has_lesser xs ys → At ys (key_of item) ≡ At xs (key_of item)
  same_at_item item xs ys stable = first_tied item ys ∙ ap first_of (stable item) ∙ sym (first_tied item xs)

  same_by_found : (in_ys in_xs : Option X) (xs ys : List X) (key : List ℕ) → IsStableBy has_lesser xs ys → At ys key ≡ in_ys → At xs key ≡ in_xs → At ys key ≡ At xs key
  same_by_found (Some item) in_xs xs ys key stable found was = subst (λ k. At ys k ≡ At xs k) (found_key ys key item found) (same_at_item item xs ys stable)
  same_by_found None (Some item) xs ys key stable found was = subst (λ k. At ys k ≡ At xs k) (found_key xs key item was) (same_at_item item xs ys stable)
  same_by_found None None xs ys key stable found was = found ∙ sym was

  -- a stable sort finds the same at each key
  pub value_under-stable : (xs ys : List X) → IsStableBy has_lesser xs ys → (key : List ℕ) → At ys key ≡ At xs key
  value_under-stable xs ys stable key = same_by_found _ _ xs ys key stable refl refl

  -- what all entries are, each found one is
  pub All-found : (P : X → Type 0) (xs ys : List X) → IsRising key_of ys → ((key : List ℕ) → At ys key ≡ At xs key) → All P xs → All P ys
  All-found P xs ys rising same all place d lt =
      let item = get_or ys place d in
      found_holds P xs (key_of item) item all (sym (same (key_of item)) ∙ each_found key_of (λ item. item) ys rising place d lt)

  has_key-list_any : (items : List X) (key : List ℕ) → has_key key_of items key ≡ list_any (λ item. is_eq (key_cmp key (key_of item))) items
  has_key-list_any [] key = refl
  has_key-list_any (item ∷ items) key =
      elim (is_eq (key_cmp key (key_of item))) as (λ b. is_some (if b then Some item else At items key) ≡ (b || list_any (λ item. is_eq (key_cmp key (key_of item))) items)) [
        | true ↦ refl
        | false ↦ has_key-list_any items key
      ]

  -- the order of the items does not say which keys there are
  pub has_key-reverse : (items : List X) (key : List ℕ) → has_key key_of (reverse items) key ≡ has_key key_of items key
  has_key-reverse items key =
      has_key-list_any (reverse items) key
      ∙ sym (list_any-IsPermutation (λ item. is_eq (key_cmp key (key_of item))) items (reverse items) (IsPermutation-reverse items))
      ∙ sym (has_key-list_any items key)

  each_has : (items : List X) → All (λ item. has_key key_of items (key_of item) ≡ true) items
  each_has [] place d lt = absurd (omega arith)
  each_has (item ∷ items) zero d lt = rw (key_cmp_same (key_of item))
  each_has (item ∷ items) (suc place) d lt =
      let key = key_of (get_or items place d) in
      elim (is_eq (key_cmp key (key_of item))) as (λ b. is_some (if b then Some item else At items key) ≡ true) [
        | true ↦ refl
        | false ↦ each_has items place d (omega arith)
      ]

  -- each item of the list has a key that is there
  pub has_key_of_item : (items : List X) (item : X) → Contains items item → has_key key_of items (key_of item) ≡ true
  has_key_of_item items item contains = All-contains (λ item. has_key key_of items (key_of item) ≡ true) items item (each_has items) contains

  -- an item that is found stands in the list
  pub found_contains : (items : List X) (key : List ℕ) (item : X) → At items key ≡ Some item → Contains items item
  found_contains items key item found = found_holds (Contains items) items key item (All-contains_itself items) found
