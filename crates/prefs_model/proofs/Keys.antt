-- The order of keys, byte by byte.
use Rattle.std.proofs.Common.{◌≡◌, ◌≢◌, ℕ, List, true, false, refl, sym, ◌∙◌, ap}
use Rattle.std.specs.Ordering.{ordering_reverse, is_eq}
use Rattle.std.specs.declared.cmp.Ordering.{Ordering}
use Rattle.std.specs.declared.cmp.Ordering.TheVariants.{Less, Equal, Greater}
use Rattle.std.proofs.lemmas.Cmp.{nat_list_cmp_total, tied_itself}
use Rattle.std.proofs.lemmas.Map.Text.{is_eq-slice_cmp}
use Rattle.std.proofs.lemmas.Slice.Eq.{bytes_eq-Decides}
use Rattle.prefs_model.specs.Rising.{key_cmp}

pub key_cmp_same : (key : List ℕ) → key_cmp key key ≡ Equal
key_cmp_same key = tied_itself nat_list_cmp_total key

pub same_from_is_eq : (a b : List ℕ) → is_eq (key_cmp a b) ≡ true → a ≡ b
same_from_is_eq a b equal = (bytes_eq-Decides a b).0 (sym (is_eq-slice_cmp a b) ∙ equal)

pub same_from_equal : (a b : List ℕ) → key_cmp a b ≡ Equal → a ≡ b
same_from_equal a b equal = same_from_is_eq a b (ap is_eq equal)

pub greater_from_less : (a b : List ℕ) → key_cmp a b ≡ Less → key_cmp b a ≡ Greater
greater_from_less a b less = nat_list_cmp_total.antisymm b a ∙ ap ordering_reverse less

pub less_from_greater : (a b : List ℕ) → key_cmp a b ≡ Greater → key_cmp b a ≡ Less
less_from_greater a b greater = nat_list_cmp_total.antisymm b a ∙ ap ordering_reverse greater

pub less_trans : (a b c : List ℕ) → key_cmp a b ≡ Less → key_cmp b c ≡ Less → key_cmp a c ≡ Less
less_trans a b c = nat_list_cmp_total.trans a b c

differs_by : (order : Ordering) (a b : List ℕ) → key_cmp a b ≡ order → a ≢ b → is_eq order ≡ false
differs_by Less a b is differs = refl
differs_by Equal a b is differs = absurd (differs (same_from_equal a b is))
differs_by Greater a b is differs = refl

pub key_cmp_differs : (a b : List ℕ) → a ≢ b → is_eq (key_cmp a b) ≡ false
key_cmp_differs a b differs = differs_by (key_cmp a b) a b refl differs
