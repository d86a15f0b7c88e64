-- Lists of items whose keys rise strictly, byte by byte. `key_of` gives an item's key.
use Rattle.std.specs.Prelude.{ℕ, ◌≡◌, ◌<◌, ◌≤◌, List, [], ◌∷◌, length, Option, Some, None, is_some, Bool, not, All, filter, if◌then◌else◌}
use Rattle.std.specs.Ordering.{nat_cmp, is_eq}
use Rattle.std.specs.List.{AllWithin, HoldsAt}
use Rattle.std.specs.Cmp.Lexicographic.{slice_cmp}
use Rattle.std.specs.declared.cmp.Ordering.{Ordering}
use Rattle.std.specs.declared.cmp.Ordering.TheVariants.{Less, Equal, Greater}

abbrev pub key_cmp : List ℕ → List ℕ → Ordering
key_cmp = slice_cmp nat_cmp

-- the key is less than that of the first item, if there is one
abbrev pub IsBelow : {X : Type 0} → (X → List ℕ) → List ℕ → List X → Type 0
IsBelow key_of key [] = Unit {0}
IsBelow key_of key (item ∷ items) = key_cmp key (key_of item) ≡ Less

-- each key is less than the next
abbrev pub IsRising : {X : Type 0} → (X → List ℕ) → List X → Type 0
IsRising key_of [] = Unit {0}
IsRising key_of (item ∷ items) = IsBelow key_of (key_of item) items × IsRising key_of items

-- what `value_of` gives of the item with the key, if there is one
abbrev pub value_under : {X Y : Type 0} → (X → List ℕ) → (X → Y) → List X → List ℕ → Option Y
value_under key_of value_of [] key = None
value_under key_of value_of (item ∷ items) key = if is_eq (key_cmp key (key_of item)) then Some (value_of item) else value_under key_of value_of items key

-- whether an item has the key
abbrev pub has_key : {X : Type 0} → (X → List ℕ) → List X → List ℕ → Bool
has_key key_of items key = is_some (value_under key_of (λ item. item) items key)

-- the items with a new one before, in the place of, or behind the first of them
abbrev pub placed : {X : Type 0} → Ordering → X → X → List X → List X → List X
placed Less new item items behind = new ∷ item ∷ items
placed Equal new item items behind = new ∷ items
placed Greater new item items behind = item ∷ behind

-- the items once this one has the place of its key
abbrev pub with_item : {X : Type 0} → (X → List ℕ) → List X → X → List X
with_item key_of [] new = new ∷ []
with_item key_of (item ∷ items) new = placed (key_cmp (key_of new) (key_of item)) new item items (with_item key_of items new)

-- the items that have another key
abbrev pub without_key : {X : Type 0} → (X → List ℕ) → List X → List ℕ → List X
without_key key_of items key = filter (λ item. not (is_eq (key_cmp key (key_of item)))) items

-- the keys rise, and each item is valid
pub record IsSortedList {X : Type 0} (key_of : X → List ℕ) (is_valid : X → Type 0) (items : List X) : Type 0 where
  pub rising : IsRising key_of items
  pub valid : All is_valid items

-- the item at this place has the key, and those before it have smaller keys
pub record IsAt {X : Type 0} (key_of : X → List ℕ) (items : List X) (key : List ℕ) (place : ℕ) : Type 0 where
  pub in_range : place < length items
  pub before : AllWithin (λ item. key_cmp key (key_of item) ≡ Greater) items 0 place
  pub here : HoldsAt (λ item. key_cmp key (key_of item) ≡ Equal) items place

-- the key would go to this place: smaller keys stand before it, and greater keys from it on
pub record IsGapFor {X : Type 0} (key_of : X → List ℕ) (items : List X) (key : List ℕ) (place : ℕ) : Type 0 where
  pub in_range : place ≤ length items
  pub before : AllWithin (λ item. key_cmp key (key_of item) ≡ Greater) items 0 place
  pub after : AllWithin (λ item. key_cmp key (key_of item) ≡ Less) items place (length items)
