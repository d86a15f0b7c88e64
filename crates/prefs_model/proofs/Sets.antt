-- The set of texts that came in any order.
use Rattle.std.proofs.Common.{◌≡◌, ◌≢◌, ℕ, List, [], ◌∷◌, Bool, true, false, Some, is_some, refl, sym, ap, ◌∙◌, subst, if◌then◌else◌}
use Rattle.std.specs.Ordering.{is_eq}
use Rattle.prefs_model.specs.Texts.{IsTextSet, itself, has_text, with_text, set_of}
use Rattle.prefs_model.specs.Rising.{key_cmp, IsRising, value_under}
use Rattle.prefs_model.proofs.Keys.{key_cmp_same, same_from_is_eq}
use Rattle.prefs_model.proofs.Rising.{IsRising-with_item}
use Rattle.prefs_model.proofs.Texts.{same_from_rising, has_text-with_text, has_text-with_other}

pub set_of_rises : (texts : List (List ℕ)) → IsRising itself (set_of texts)
set_of_rises [] = tt
set_of_rises (first ∷ texts) = IsRising-with_item itself (set_of texts) first (set_of_rises texts)

differs : (t first : List ℕ) → is_eq (key_cmp t first) ≡ false → t ≢ first
differs t first is same =
    let equal : is_eq (key_cmp t first) ≡ true = ap (λ (k : List ℕ). is_eq (key_cmp t k)) (sym same) ∙ ap is_eq (key_cmp_same t) in
    cc

has_by : (b : Bool) (first : List ℕ) (texts : List (List ℕ)) (t : List ℕ) → is_eq (key_cmp t first) ≡ b → has_text (set_of texts) t ≡ has_text texts t → has_text (with_text (set_of texts) first) t ≡ is_some (if b then Some first else value_under itself (λ item. item) texts t)
has_by true first texts t is behind =
    subst (λ (k : List ℕ). has_text (with_text (set_of texts) first) k ≡ true) (sym (same_from_is_eq t first is)) (has_text-with_text (set_of texts) first)
has_by false first texts t is behind = has_text-with_other (set_of texts) first t (differs t first is) ∙ behind

pub set_of_has : (texts : List (List ℕ)) (t : List ℕ) → has_text (set_of texts) t ≡ has_text texts t
set_of_has [] t = refl
set_of_has (first ∷ texts) t = has_by (is_eq (key_cmp t first)) first texts t refl (set_of_has texts t)

pub is_set_of : (set texts : List (List ℕ)) → IsTextSet set → ((t : List ℕ) → has_text set t ≡ has_text texts t) → set ≡ set_of texts
is_set_of set texts is same = same_from_rising set (set_of texts) is.rising (set_of_rises texts) (λ t. same t ∙ sym (set_of_has texts t))
