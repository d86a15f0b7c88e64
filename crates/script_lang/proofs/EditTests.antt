-- Tests of whether edits, and maps, are the same.
use Rattle.std.proofs.Common.{◌≡◌, ◌∙◌, ◌&&◌, Bool, true, false, ℕ, List, refl, ap}
use Rattle.std.specs.Bool.{Decides}
use Rattle.std.specs.Ordering.{int_eq}
use Rattle.std.specs.Str.{bytes_eq}
use Rattle.std.proofs.lemmas.Bool.{and_parts}
use Rattle.std.proofs.lemmas.Bool.Decides.{Decides-int_eq}
use Rattle.std.proofs.lemmas.Slice.Eq.{bytes_eq-Decides}
use Rattle.prefs_model.specs.declared.pref_pair.PrefPair.{PrefPair}
use Rattle.prefs_model.specs.declared.pref_value.PrefValue.{PrefValue}
use Rattle.prefs_edit.specs.declared.edit_step.EditStep.{EditStep}
use Rattle.prefs_edit.specs.declared.edit_step.EditStep.TheVariants.{Set, Remove, Clear, AddInt, AddLong, Toggle, InsertText, RemoveText, Require}
use Rattle.prefs_edit.specs.Same.{same_value}
use Rattle.prefs_edit.proofs.Same.{same_value-Decides}
use Rattle.shelf.specs.Decided.{Decided}
use Rattle.shelf.proofs.Bools.{never}
use Rattle.shelf.proofs.Tests.{both, like, same_list}

abbrev pub one_bytes : (a b : List ℕ) → Decided (a ≡ b)
one_bytes a b = record { test = bytes_eq a b; law = bytes_eq-Decides a b }

abbrev pub same_step : EditStep → EditStep → Bool
same_step (Set k v) (Set l w) = bytes_eq k l && same_value v w
same_step (Remove k) (Remove l) = bytes_eq k l
same_step Clear Clear = true
same_step (AddInt k n) (AddInt l m) = bytes_eq k l && int_eq n m
same_step (AddLong k n) (AddLong l m) = bytes_eq k l && int_eq n m
same_step (Toggle k) (Toggle l) = bytes_eq k l
same_step (InsertText k s) (InsertText l t) = bytes_eq k l && bytes_eq s t
same_step (RemoveText k s) (RemoveText l t) = bytes_eq k l && bytes_eq s t
same_step (Require k v) (Require l w) = bytes_eq k l && same_value v w
same_step a b = false

-- a step of two parts is the same where both are
module _ {X : Type 0} (step : List ℕ → X → EditStep) (same : X → X → Bool) (decides : (a b : X) → Decides (same a b) (a ≡ b)) where
  two_parts : (k l : List ℕ) (a b : X) → (bytes_eq k l && same a b) ≡ true → step k a ≡ step l b
  two_parts k l a b is = let both = and_parts (bytes_eq k l) (same a b) is in rw ((bytes_eq-Decides k l).0 both.0, (decides a b).0 both.1) refl

  itself : (k : List ℕ) (a : X) → (bytes_eq k k && same a a) ≡ true
  itself k a = rw ((bytes_eq-Decides k k).1 refl, (decides a a).1 refl) refl

step_so : (a b : EditStep) → same_step a b ≡ true → a ≡ b
step_so (Set k v) (Set l w) is = two_parts Set same_value same_value-Decides k l v w is
step_so (Remove k) (Remove l) is = ap Remove ((bytes_eq-Decides k l).0 is)
step_so Clear Clear is = refl
step_so (AddInt k n) (AddInt l m) is = two_parts AddInt int_eq Decides-int_eq k l n m is
step_so (AddLong k n) (AddLong l m) is = two_parts AddLong int_eq Decides-int_eq k l n m is
step_so (Toggle k) (Toggle l) is = ap Toggle ((bytes_eq-Decides k l).0 is)
step_so (InsertText k s) (InsertText l t) is = two_parts InsertText bytes_eq bytes_eq-Decides k l s t is
step_so (RemoveText k s) (RemoveText l t) is = two_parts RemoveText bytes_eq bytes_eq-Decides k l s t is
step_so (Require k v) (Require l w) is = two_parts Require same_value same_value-Decides k l v w is
step_so a b is = never is

step_same : (a : EditStep) → same_step a a ≡ true
step_same (Set k v) = itself Set same_value same_value-Decides k v
step_same (Remove k) = (bytes_eq-Decides k k).1 refl
step_same Clear = refl
step_same (AddInt k n) = itself AddInt int_eq Decides-int_eq k n
step_same (AddLong k n) = itself AddLong int_eq Decides-int_eq k n
step_same (Toggle k) = (bytes_eq-Decides k k).1 refl
step_same (InsertText k s) = itself InsertText bytes_eq bytes_eq-Decides k s
step_same (RemoveText k s) = itself RemoveText bytes_eq bytes_eq-Decides k s
step_same (Require k v) = itself Require same_value same_value-Decides k v

pub step_law : (a b : EditStep) → Decides (same_step a b) (a ≡ b)
step_law a b = (step_so a b, λ is. rw is (step_same b))

abbrev pub one_step : (a b : EditStep) → Decided (a ≡ b)
one_step a b = record { test = same_step a b; law = step_law a b }

abbrev pub one_edit : (a b : List EditStep) → Decided (a ≡ b)
one_edit = same_list one_step

abbrev pub one_value : (a b : PrefValue) → Decided (a ≡ b)
one_value a b = record { test = same_value a b; law = same_value-Decides a b }

pub pair_so : (a b : PrefPair) → (a.key ≡ b.key) × (a.value ≡ b.value) → a ≡ b
pair_so a b is =
    ap (λ (k : List ℕ). let p : PrefPair = record { key = k; value = a.value } in p) is.0 ∙ ap (λ (v : PrefValue). let p : PrefPair = record { key = b.key; value = v } in p) is.1

abbrev pub one_pair : (a b : PrefPair) → Decided (a ≡ b)
one_pair a b = like (pair_so a b) (λ is. (ap (λ (p : PrefPair). p.key) is, ap (λ (p : PrefPair). p.value) is)) (both (one_bytes a.key b.key) (one_value a.value b.value))

abbrev pub one_map : (a b : List PrefPair) → Decided (a ≡ b)
one_map = same_list one_pair
