-- Where a binary search in items whose keys rise ends, and what an edit at that place does.
use Rattle.std.proofs.Common.{◌≡◌, ℕ, zero, suc, ◌+◌, ◌<◌, List, [], ◌∷◌, length, get_or, set, Some, None, Result, Ok, Err, IfOk, IfErr, false, refl, ap, inl, inr, arith}
use Rattle.std.specs.List.{insert, remove}
use Rattle.std.specs.List.Sorted.{IsSearchInRange, IsBinarySearchResult, IsSortedBy}
use Rattle.std.specs.Ordering.{is_lt, is_eq}
use Rattle.std.specs.declared.cmp.Ordering.TheVariants.{Less}
use Rattle.std.proofs.lemmas.Bool.{cases_lt}
use Rattle.std.proofs.lemmas.Cmp.{nat_list_cmp_total, tied_back}
use Rattle.std.proofs.lemmas.List.Sorted.{searchable_from_sorted}
use Rattle.prefs_model.specs.Rising.{key_cmp, IsRising, IsAt, IsGapFor, value_under, with_item, without_key}
use Rattle.prefs_model.proofs.Rising.{first_is_least}
use Rattle.prefs_model.proofs.Keys.{same_from_equal, greater_from_less, less_from_greater}

module _ {X : Type 0} (key_of : X → List ℕ) where
  -- each key is less than any later one
  rising_far : (items : List X) → IsRising key_of items → (i j : ℕ) (d : X) → i < j → j < length items → key_cmp (key_of (get_or items i d)) (key_of (get_or items j d)) ≡ Less
  rising_far [] rising i j d lt in_range = absurd (omega arith)
  rising_far (item ∷ items) rising i zero d lt in_range = absurd (omega arith)
  rising_far (item ∷ items) rising zero (suc j) d lt in_range = first_is_least key_of item items rising j d (omega arith)
  rising_far (item ∷ items) rising (suc i) (suc j) d lt in_range = rising_far items rising.1 i j d (omega arith) (omega arith)

  sorted_from_rising : (items : List X) → IsRising key_of items → IsSortedBy (λ a b. is_lt (key_cmp (key_of a) (key_of b))) items
  sorted_from_rising items rising k d from in_range = ap is_lt (greater_from_less (key_of (get_or items k d)) (key_of (get_or items (k + 1) d)) (rising_far items rising k (k + 1) d (omega arith) in_range))

  pub searched : (items : List X) → IsRising key_of items → (key : List ℕ) (r : Result ℕ ℕ) → IsSearchInRange r (length items) → IsBinarySearchResult (λ item. key_cmp (key_of item) key) items r → record { found : IfOk r (IsAt key_of items key); absent : IfErr r (IsGapFor key_of items key) }
  searched items rising key (Ok place) in_range equal = record {
    found = record {
      in_range = in_range;
      before = λ j d from lt. greater_from_less (key_of (get_or items j d)) key (
          let less : key_cmp (key_of (get_or items j d)) (key_of (get_or items place d)) ≡ Less = rising_far items rising j place d lt in_range in
          rw (same_from_equal (key_of (get_or items place d)) key (equal d)) at less);
      here = λ d. tied_back nat_list_cmp_total (key_of (get_or items place d)) key (equal d);
    };
    absent = tt;
  }
  searched items rising key (Err place) in_range parted =
      let parts = parted (searchable_from_sorted nat_list_cmp_total key_of items key (sorted_from_rising items rising)) in
      record {
        found = tt;
        absent = record {
          in_range = in_range;
          before = λ j d from lt. greater_from_less (key_of (get_or items j d)) key (parts.0 j d from lt);
          after = λ j d from lt. less_from_greater (key_of (get_or items j d)) key (parts.1 j d from lt);
        };
      }

  gap_behind : (item : X) (items : List X) (key : List ℕ) (place : ℕ) → IsGapFor key_of (item ∷ items) key (suc place) → IsGapFor key_of items key place
  gap_behind item items key place gap = record {
    in_range = omega (arith, gap.in_range);
    before = λ j d from lt. gap.before (suc j) d (omega arith) (omega arith);
    after = λ j d from lt. gap.after (suc j) d (omega arith) (omega arith);
  }

  gap_in_front : (item : X) (items : List X) (key : List ℕ) → IsGapFor key_of (item ∷ items) key zero → IsGapFor key_of items key zero
  gap_in_front item items key gap = record {
    in_range = omega arith;
    before = λ j d from lt. absurd (omega arith);
    after = λ j d from lt. gap.after (suc j) d (omega arith) (omega arith);
  }

  at_behind : (item : X) (items : List X) (key : List ℕ) (place : ℕ) → IsAt key_of (item ∷ items) key (suc place) → IsAt key_of items key place
  at_behind item items key place at = record {
    in_range = omega (arith, at.in_range);
    before = λ j d from lt. at.before (suc j) d (omega arith) (omega arith);
    here = at.here;
  }

  pub with_item_gap : (items : List X) (new : X) (place : ℕ) → IsGapFor key_of items (key_of new) place → with_item key_of items new ≡ insert items place new
  with_item_gap [] new zero gap = refl
  with_item_gap [] new (suc place) gap = absurd (omega (arith, gap.in_range))
  with_item_gap (item ∷ items) new zero gap = rw (gap.after 0 item (omega arith) (omega arith))
  with_item_gap (item ∷ items) new (suc place) gap =
      rw (gap.before 0 item (omega arith) (omega arith)) (ap (λ rest. item ∷ rest) (with_item_gap items new place (gap_behind item items (key_of new) place gap)))

  pub with_item_at : (items : List X) (new : X) (place : ℕ) → IsAt key_of items (key_of new) place → with_item key_of items new ≡ set items place new
  with_item_at [] new place at = absurd (omega (arith, at.in_range))
  with_item_at (item ∷ items) new zero at = rw (at.here item)
  with_item_at (item ∷ items) new (suc place) at =
      rw (at.before 0 item (omega arith) (omega arith)) (ap (λ rest. item ∷ rest) (with_item_at items new place (at_behind item items (key_of new) place at)))

  -- no item goes where none has the key
  without_absent : (items : List X) (key : List ℕ) → ((place : ℕ) (d : X) → place < length items → is_eq (key_cmp key (key_of (get_or items place d))) ≡ false) → without_key key_of items key ≡ items
  without_absent [] key absent = refl
  without_absent (item ∷ items) key absent =
      rw (absent 0 item (omega arith)) (ap (λ rest. item ∷ rest) (without_absent items key (λ place d lt. absent (suc place) d (omega arith))))

  pub without_key_gap : (items : List X) (key : List ℕ) (place : ℕ) → IsGapFor key_of items key place → without_key key_of items key ≡ items
  without_key_gap items key place gap = without_absent items key (λ j d lt. elim (cases_lt j place) [
    | inl below ↦ ap is_eq (gap.before j d (omega arith) below)
    | inr from ↦ ap is_eq (gap.after j d from lt)
  ])

  pub without_key_at : (items : List X) (key : List ℕ) (place : ℕ) → IsRising key_of items → IsAt key_of items key place → without_key key_of items key ≡ remove items place
  without_key_at [] key place rising at = absurd (omega (arith, at.in_range))
  without_key_at (item ∷ items) key zero rising at =
      let same = same_from_equal key (key_of item) (at.here item) in
      let less = first_is_least key_of item items rising in
      rw (at.here item) (without_absent items key (λ j d lt. rw (same, less j d lt)))
  without_key_at (item ∷ items) key (suc place) rising at =
      rw (at.before 0 item (omega arith) (omega arith)) (ap (λ rest. item ∷ rest) (without_key_at items key place rising.1 (at_behind item items key place at)))

  module _ {Y : Type 0} (value_of : X → Y) where
    pub value_in_gap : (items : List X) (key : List ℕ) (place : ℕ) → IsGapFor key_of items key place → value_under key_of value_of items key ≡ None
    value_in_gap [] key place gap = refl
    value_in_gap (item ∷ items) key zero gap = rw (gap.after 0 item (omega arith) (omega arith)) (value_in_gap items key zero (gap_in_front item items key gap))
    value_in_gap (item ∷ items) key (suc place) gap = rw (gap.before 0 item (omega arith) (omega arith)) (value_in_gap items key place (gap_behind item items key place gap))

    pub value_at_place : (items : List X) (key : List ℕ) (place : ℕ) (d : X) → IsAt key_of items key place → value_under key_of value_of items key ≡ Some (value_of (get_or items place d))
    value_at_place [] key place d at = absurd (omega (arith, at.in_range))
    value_at_place (item ∷ items) key zero d at = rw (at.here item)
    value_at_place (item ∷ items) key (suc place) d at = rw (at.before 0 item (omega arith) (omega arith)) (value_at_place items key place d (at_behind item items key place at))
