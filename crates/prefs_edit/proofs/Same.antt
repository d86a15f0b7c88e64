-- The test of a value accepts exactly the value itself.
use Rattle.std.proofs.Common.{◌≡◌, ap, refl}
use Rattle.std.specs.Bool.{Decides}
use Rattle.std.specs.Cmp.{booleans_Decides}
use Rattle.std.proofs.lemmas.Bool.Decides.{Decides-eqb, Decides-int_eq, Decides-like}
use Rattle.std.proofs.lemmas.Slice.Eq.{bytes_eq-Decides, slice_eq-Decides}
use Rattle.prefs_model.specs.declared.pref_value.PrefValue.{PrefValue}
use Rattle.prefs_model.specs.declared.pref_value.PrefValue.TheVariants.{Bool as Truth, Int, Long, Float, Double, Text, Texts}
use Rattle.prefs_edit.specs.Same.{same_value}

pub same_value-Decides : (a b : PrefValue) → Decides (same_value a b) (a ≡ b)
same_value-Decides (Truth a) (Truth b) = Decides-like _ (λ same. ap Truth same) (λ same. cc) (booleans_Decides a b)
same_value-Decides (Int a) (Int b) = Decides-like _ (λ same. ap Int same) (λ same. cc) (Decides-int_eq a b)
same_value-Decides (Long a) (Long b) = Decides-like _ (λ same. ap Long same) (λ same. cc) (Decides-int_eq a b)
same_value-Decides (Float a) (Float b) = Decides-like _ (λ same. ap Float same) (λ same. cc) (Decides-eqb a b)
same_value-Decides (Double a) (Double b) = Decides-like _ (λ same. ap Double same) (λ same. cc) (Decides-eqb a b)
same_value-Decides (Text a) (Text b) = Decides-like _ (λ same. ap Text same) (λ same. cc) (bytes_eq-Decides a b)
same_value-Decides (Texts a) (Texts b) = Decides-like _ (λ same. ap Texts same) (λ same. cc) (slice_eq-Decides bytes_eq-Decides a b _ refl)
same_value-Decides a b = (λ wrong. cc, λ same. cc)
