-- Lists whose keys rise: what stays when an item gets the place of its key, and what is found then.
use Rattle.std.proofs.Common.{◌≡◌, ◌≢◌, ℕ, List, [], ◌∷◌, ◌++◌, Option, Some, None, refl, sym, ◌∙◌, ap, subst, All, is_some, option_map, Bool, not, true, false, zero, suc, get_or, arith, if◌then◌else◌}
use Rattle.std.specs.Ordering.{is_eq}
use Rattle.std.specs.declared.cmp.Ordering.{Ordering}
use Rattle.std.specs.declared.cmp.Ordering.TheVariants.{Less, Equal, Greater}
use Rattle.std.proofs.lemmas.List.Elements.{All-nil, All-cons, All-head, All-tail, All-weaker, All-filter}
use Rattle.std.proofs.lemmas.Option.{none-some, same_Some}
use Rattle.prefs_model.specs.Rising.{key_cmp, IsBelow, IsRising, IsSortedList, value_under, has_key, placed, with_item, without_key}
use Rattle.prefs_model.proofs.Keys.{key_cmp_same, key_cmp_differs, same_from_is_eq, same_from_equal, greater_from_less, less_from_greater, less_trans}

module _ {X : Type 0} (key_of : X → List ℕ) where
  pub IsBelow-trans : (a b : List ℕ) (items : List X) → key_cmp a b ≡ Less → IsBelow key_of b items → IsBelow key_of a items
  IsBelow-trans a b [] less below = tt
  IsBelow-trans a b (item ∷ items) less below = less_trans a b (key_of item) less below

  -- a front of items that rise
  pub IsRising-front : (items more : List X) → IsRising key_of (items ++ more) → IsRising key_of items
  IsRising-front [] more rising = tt
  IsRising-front (item ∷ []) more rising = (tt, tt)
  IsRising-front (item ∷ next ∷ items) more rising = (rising.0, IsRising-front (next ∷ items) more rising.1)

  -- the first key is less than all that follow
  pub first_is_least : (item : X) (items : List X) → IsRising key_of (item ∷ items) → All (λ later. key_cmp (key_of item) (key_of later) ≡ Less) items
  first_is_least item [] rising = All-nil (λ later. key_cmp (key_of item) (key_of later) ≡ Less)
  first_is_least item (next ∷ items) rising =
      let IsAbove : X → X → Type 0 = λ first later. key_cmp (key_of first) (key_of later) ≡ Less in
      let above = All-weaker (IsAbove next) (IsAbove item) (λ later less. less_trans (key_of item) (key_of next) (key_of later) rising.0 less) items (first_is_least next items rising.1) in
      All-cons (IsAbove item) next items rising.0 above

  IsBelow-with_item : (key : List ℕ) (items : List X) (new : X) → key_cmp key (key_of new) ≡ Less → IsBelow key_of key items → IsBelow key_of key (with_item key_of items new)
  IsBelow-with_item key [] new less below = less
  IsBelow-with_item key (item ∷ items) new less below =
      elim (key_cmp (key_of new) (key_of item)) as (λ o. IsBelow key_of key (placed o new item items (with_item key_of items new))) [
        | Less ↦ less
        | Equal ↦ less
        | Greater ↦ below
      ]

  rising_placed : (order : Ordering) (items : List X) (item new : X) → key_cmp (key_of new) (key_of item) ≡ order → IsRising key_of (item ∷ items) → IsRising key_of (with_item key_of items new) → IsRising key_of (placed order new item items (with_item key_of items new))
  rising_placed Less items item new is rising behind = (is, rising)
  rising_placed Equal items item new is rising behind = (subst (λ key. IsBelow key_of key items) (sym (same_from_equal (key_of new) (key_of item) is)) rising.0, rising.1)
  rising_placed Greater items item new is rising behind = (IsBelow-with_item (key_of item) items new (less_from_greater (key_of new) (key_of item) is) rising.0, behind)

  pub IsRising-with_item : (items : List X) (new : X) → IsRising key_of items → IsRising key_of (with_item key_of items new)
  IsRising-with_item [] new rising = (tt, tt)
  IsRising-with_item (item ∷ items) new rising = rising_placed _ items item new refl rising (IsRising-with_item items new rising.1)

  pub All-with_item : (P : X → Type 0) (items : List X) (new : X) → All P items → P new → All P (with_item key_of items new)
  All-with_item P [] new all here = All-cons P new [] here all
  All-with_item P (item ∷ items) new all here =
      elim (key_cmp (key_of new) (key_of item)) as (λ o. All P (placed o new item items (with_item key_of items new))) [
        | Less ↦ All-cons P new (item ∷ items) here all
        | Equal ↦ All-cons P new items here (All-tail P item items all)
        | Greater ↦ All-cons P item (with_item key_of items new) (All-head P item items all) (All-with_item P items new (All-tail P item items all) here)
      ]

  first_before_last : (item : X) (items : List X) (new : X) → IsRising key_of (item ∷ (items ++ new ∷ [])) → key_cmp (key_of item) (key_of new) ≡ Less
  first_before_last item [] new rising = rising.0
  first_before_last item (next ∷ items) new rising = less_trans (key_of item) (key_of next) (key_of new) rising.0 (first_before_last next items new rising.1)

  pub IsSortedList-with_item : (is_valid : X → Type 0) (items : List X) (new : X) → IsSortedList key_of is_valid items → is_valid new → IsSortedList key_of is_valid (with_item key_of items new)
  IsSortedList-with_item is_valid items new sorted valid = record {
    rising = IsRising-with_item items new sorted.rising;
    valid = All-with_item is_valid items new sorted.valid valid;
  }

  without_absent_by : (b : Bool) (item : X) (items : List X) (key : List ℕ) → is_some (if b then Some item else value_under key_of (λ item. item) items key) ≡ false → (has_key key_of items key ≡ false → without_key key_of items key ≡ items) → (if not b then item ∷ without_key key_of items key else without_key key_of items key) ≡ item ∷ items
  without_absent_by true item items key absent behind = cc
  without_absent_by false item items key absent behind = ap (λ rest. item ∷ rest) (behind absent)

  -- a key that is not there takes nothing out
  pub without_key_absent : (items : List X) (key : List ℕ) → has_key key_of items key ≡ false → without_key key_of items key ≡ items
  without_key_absent [] key absent = refl
  without_key_absent (item ∷ items) key absent = without_absent_by (is_eq (key_cmp key (key_of item))) item items key absent (without_key_absent items key)

  IsBelow-without_key : (least : List ℕ) (items : List X) (key : List ℕ) → IsRising key_of items → IsBelow key_of least items → IsBelow key_of least (without_key key_of items key)
  IsBelow-without_key least [] key rising below = tt
  IsBelow-without_key least (item ∷ items) key rising below =
      elim (is_eq (key_cmp key (key_of item))) as (λ b. IsBelow key_of least (if not b then item ∷ without_key key_of items key else without_key key_of items key)) [
        | true ↦ IsBelow-without_key least items key rising.1 (IsBelow-trans least (key_of item) items below rising.0)
        | false ↦ below
      ]

  pub IsRising-without_key : (items : List X) (key : List ℕ) → IsRising key_of items → IsRising key_of (without_key key_of items key)
  IsRising-without_key [] key rising = tt
  IsRising-without_key (item ∷ items) key rising =
      elim (is_eq (key_cmp key (key_of item))) as (λ b. IsRising key_of (if not b then item ∷ without_key key_of items key else without_key key_of items key)) [
        | true ↦ IsRising-without_key items key rising.1
        | false ↦ (IsBelow-without_key (key_of item) items key rising.1 rising.0, IsRising-without_key items key rising.1)
      ]

  pub IsSortedList-without_key : (is_valid : X → Type 0) (items : List X) (key : List ℕ) → IsSortedList key_of is_valid items → IsSortedList key_of is_valid (without_key key_of items key)
  IsSortedList-without_key is_valid items key sorted = record {
    rising = IsRising-without_key items key sorted.rising;
    valid = All-filter (λ item. not (is_eq (key_cmp key (key_of item)))) is_valid items sorted.valid;
  }

  -- an item with a greater key than all goes to the end
  pub with_item_end : (items : List X) (new : X) → IsRising key_of (items ++ new ∷ []) → with_item key_of items new ≡ items ++ new ∷ []
  with_item_end [] new rising = refl
  with_item_end (item ∷ items) new rising =
      rw (greater_from_less (key_of item) (key_of new) (first_before_last item items new rising)) (ap (λ rest. item ∷ rest) (with_item_end items new rising.1))

  module _ {Y : Type 0} (value_of : X → Y) where
    -- what is found in a list
    abbrev At : List X → List ℕ → Option Y
    At items key = value_under key_of value_of items key

    -- a key below the first is not found
    pub value_below : (items : List X) (key : List ℕ) → IsRising key_of items → IsBelow key_of key items → value_under key_of value_of items key ≡ None
    value_below [] key rising below = refl
    value_below (item ∷ items) key rising below = rw below (value_below items key rising.1 (IsBelow-trans key (key_of item) items below rising.0))

    value_placed : (order : Ordering) (items : List X) (item new : X) → key_cmp (key_of new) (key_of item) ≡ order → At (with_item key_of items new) (key_of new) ≡ Some (value_of new) → At (placed order new item items (with_item key_of items new)) (key_of new) ≡ Some (value_of new)
    value_placed Less items item new is behind = rw (key_cmp_same (key_of new))
    value_placed Equal items item new is behind = rw (key_cmp_same (key_of new))
    value_placed Greater items item new is behind = rw is behind

    -- a new item is found by its key
    pub value_with_item : (items : List X) (new : X) → value_under key_of value_of (with_item key_of items new) (key_of new) ≡ Some (value_of new)
    value_with_item [] new = rw (key_cmp_same (key_of new))
    value_with_item (item ∷ items) new = value_placed _ items item new refl (value_with_item items new)

    other_placed : (order : Ordering) (items : List X) (item new : X) (key : List ℕ) → key_cmp (key_of new) (key_of item) ≡ order → key ≢ key_of new → At (with_item key_of items new) key ≡ At items key → At (placed order new item items (with_item key_of items new)) key ≡ At (item ∷ items) key
    other_placed Less items item new key is differs behind = rw (key_cmp_differs key (key_of new) differs)
    other_placed Equal items item new key is differs behind =
        let same = same_from_equal (key_of new) (key_of item) is in
        rw (key_cmp_differs key (key_of new) differs, key_cmp_differs key (key_of item) (λ equal. differs (equal ∙ sym same)))
    other_placed Greater items item new key is differs behind = rw behind

    -- at every other key the same is found as before
    pub value_with_other : (items : List X) (new : X) (key : List ℕ) → key ≢ key_of new → value_under key_of value_of (with_item key_of items new) key ≡ value_under key_of value_of items key
    value_with_other [] new key differs = rw (key_cmp_differs key (key_of new) differs)
    value_with_other (item ∷ items) new key differs = other_placed _ items item new key refl differs (value_with_other items new key differs)

    found_first : (item : X) (items : List X) → At (item ∷ items) (key_of item) ≡ Some (value_of item)
    found_first item items = rw (key_cmp_same (key_of item))

    found_behind : (item later : X) (items : List X) → key_cmp (key_of item) (key_of later) ≡ Less → At items (key_of later) ≡ Some (value_of later) → At (item ∷ items) (key_of later) ≡ Some (value_of later)
    found_behind item later items less found = rw (greater_from_less (key_of item) (key_of later) less) found

    -- each item is found by its key
    pub each_found : (items : List X) → IsRising key_of items → All (λ item. value_under key_of value_of items (key_of item) ≡ Some (value_of item)) items
    each_found [] rising k d lt = absurd (omega arith)
    each_found (item ∷ items) rising zero d lt = found_first item items
    each_found (item ∷ items) rising (suc k) d lt =
        found_behind item (get_or items k d) items (first_is_least item items rising k d (omega arith)) (each_found items rising.1 k d (omega arith))

    without_this : (b : Bool) (item : X) (items : List X) (key : List ℕ) → is_eq (key_cmp key (key_of item)) ≡ b → At (without_key key_of items key) key ≡ None → At (if not b then item ∷ without_key key_of items key else without_key key_of items key) key ≡ None
    without_this true item items key is behind = behind
    without_this false item items key is behind = rw is behind

    -- a key that was taken out is not found
    pub value_without_key : (items : List X) (key : List ℕ) → value_under key_of value_of (without_key key_of items key) key ≡ None
    value_without_key [] key = refl
    value_without_key (item ∷ items) key = without_this _ item items key refl (value_without_key items key)

    without_other : (b : Bool) (item : X) (items : List X) (key other : List ℕ) → is_eq (key_cmp key (key_of item)) ≡ b → other ≢ key → At (without_key key_of items key) other ≡ At items other → At (if not b then item ∷ without_key key_of items key else without_key key_of items key) other ≡ At (item ∷ items) other
    without_other true item items key other is differs behind =
        let same = same_from_is_eq key (key_of item) is in
        rw (key_cmp_differs other (key_of item) (λ equal. differs (equal ∙ sym same))) behind
    without_other false item items key other is differs behind = rw behind

    -- at every other key the same is found as before
    pub value_without_other : (items : List X) (key other : List ℕ) → other ≢ key → value_under key_of value_of (without_key key_of items key) other ≡ value_under key_of value_of items other
    value_without_other [] key other differs = refl
    value_without_other (item ∷ items) key other differs = without_other _ item items key other refl differs (value_without_other items key other differs)

    -- what is found of a part of each item
    pub value_under-found : (items : List X) (key : List ℕ) → value_under key_of value_of items key ≡ option_map value_of (value_under key_of (λ item. item) items key)
    value_under-found [] key = refl
    value_under-found (item ∷ items) key =
        elim (is_eq (key_cmp key (key_of item))) as (λ b. (if b then Some (value_of item) else At items key) ≡ option_map value_of (if b then Some item else value_under key_of (λ item. item) items key)) [
          | true ↦ refl
          | false ↦ value_under-found items key
        ]

    -- whether a key is there does not hang on what is asked of its item
    pub is_some-value_under : (items : List X) (key : List ℕ) → is_some (value_under key_of value_of items key) ≡ has_key key_of items key
    is_some-value_under [] key = refl
    is_some-value_under (item ∷ items) key =
        elim (is_eq (key_cmp key (key_of item))) as (λ b. is_some (if b then Some (value_of item) else At items key) ≡ is_some (if b then Some item else value_under key_of (λ item. item) items key)) [
          | true ↦ refl
          | false ↦ is_some-value_under items key
        ]

    module _ (one_item : (a b : X) → key_of a ≡ key_of b → value_of a ≡ value_of b → a ≡ b) where
      same_placed : (order : Ordering) (items : List X) (item new : X) → key_cmp (key_of new) (key_of item) ≡ order → IsRising key_of (item ∷ items) → At (item ∷ items) (key_of new) ≡ Some (value_of new) → (At items (key_of new) ≡ Some (value_of new) → with_item key_of items new ≡ items) → placed order new item items (with_item key_of items new) ≡ item ∷ items
      same_placed Less items item new is rising found behind = absurd (none-some _ (sym (value_below (item ∷ items) (key_of new) rising is) ∙ found))
      same_placed Equal items item new is rising found behind =
          ap (λ first. first ∷ items) (one_item new item (same_from_equal (key_of new) (key_of item) is) (sym (same_Some _ _ (rw is at found))))
      same_placed Greater items item new is rising found behind = ap (λ rest. item ∷ rest) (behind (rw is at found))

      -- an item that is there changes nothing
      pub with_item_found : (items : List X) (new : X) → IsRising key_of items → value_under key_of value_of items (key_of new) ≡ Some (value_of new) → with_item key_of items new ≡ items
      with_item_found [] new rising found = absurd (none-some _ found)
      with_item_found (item ∷ items) new rising found = same_placed _ items item new refl rising found (with_item_found items new rising.1)

      value_behind_by : (order : Ordering) (item : X) (items : List X) (key : List ℕ) → key_cmp key (key_of item) ≡ order → IsRising key_of (item ∷ items) → At items key ≡ (if is_eq order then None else if is_eq order then Some (value_of item) else At items key)
      value_behind_by Less item items key is rising = refl
      value_behind_by Equal item items key is rising = value_below items key rising.1 (subst (λ k. IsBelow key_of k items) (sym (same_from_equal key (key_of item) is)) rising.0)
      value_behind_by Greater item items key is rising = refl

      -- what is found behind the first item
      value_behind : (item : X) (items : List X) (key : List ℕ) → IsRising key_of (item ∷ items) → At items key ≡ (if is_eq (key_cmp key (key_of item)) then None else At (item ∷ items) key)
      value_behind item items key rising = value_behind_by _ item items key refl rising

      -- the lesser of two first keys would be found in one list alone
      less_first : (a b : X) (xs ys : List X) → key_cmp (key_of a) (key_of b) ≡ Less → IsRising key_of (b ∷ ys) → At (a ∷ xs) (key_of a) ≡ At (b ∷ ys) (key_of a) → ⊥
      less_first a b xs ys is rising same = none-some (value_of a) (sym (value_below (b ∷ ys) (key_of a) rising is) ∙ sym same ∙ found_first a xs)

      same_first_by : (order : Ordering) (a b : X) (xs ys : List X) → key_cmp (key_of a) (key_of b) ≡ order → IsRising key_of (a ∷ xs) → IsRising key_of (b ∷ ys) → ((key : List ℕ) → At (a ∷ xs) key ≡ At (b ∷ ys) key) → a ≡ b
      same_first_by Less a b xs ys is rising_a rising_b same = absurd (less_first a b xs ys is rising_b (same (key_of a)))
      same_first_by Equal a b xs ys is rising_a rising_b same =
          let equal = same_from_equal (key_of a) (key_of b) is in
          let found = subst (λ key. At (b ∷ ys) key ≡ Some (value_of b)) (sym equal) (found_first b ys) in
          one_item a b equal (same_Some (value_of a) (value_of b) (sym (found_first a xs) ∙ same (key_of a) ∙ found))
      same_first_by Greater a b xs ys is rising_a rising_b same = absurd (less_first b a ys xs (less_from_greater (key_of a) (key_of b) is) rising_a (sym (same (key_of b))))

      same_behind : (a b : X) (xs ys : List X) → a ≡ b → IsRising key_of (a ∷ xs) → IsRising key_of (b ∷ ys) → ((key : List ℕ) → At (a ∷ xs) key ≡ At (b ∷ ys) key) → (key : List ℕ) → At xs key ≡ At ys key
      same_behind a b xs ys first rising_a rising_b same key =
          let without : X → Option Y → Option Y = λ item found. if is_eq (key_cmp key (key_of item)) then None else found in
          value_behind a xs key rising_a ∙ ap (without a) (same key) ∙ ap (λ item. without item (At (b ∷ ys) key)) first ∙ sym (value_behind b ys key rising_b)

      -- two lists that rise and have the same at each key are one
      pub same_from_values : (xs ys : List X) → IsRising key_of xs → IsRising key_of ys → ((key : List ℕ) → value_under key_of value_of xs key ≡ value_under key_of value_of ys key) → xs ≡ ys
      same_from_values [] [] rising_a rising_b same = refl
      same_from_values [] (b ∷ ys) rising_a rising_b same = absurd (none-some (value_of b) (same (key_of b) ∙ found_first b ys))
      same_from_values (a ∷ xs) [] rising_a rising_b same = absurd (none-some (value_of a) (sym (same (key_of a)) ∙ found_first a xs))
      same_from_values (a ∷ xs) (b ∷ ys) rising_a rising_b same =
          let first = same_first_by _ a b xs ys refl rising_a rising_b same in
          let behind = same_from_values xs ys rising_a.1 rising_b.1 (same_behind a b xs ys first rising_a rising_b same) in
          cc
