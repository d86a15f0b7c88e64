-- A text is one value's at most.
use Rattle.std.proofs.Common.{◌≡◌, ◌∙◌, ◌<◌, ◌^◌, ℕ, List, [], ◌∷◌, Bool, true, false, Some, ap, sym, refl, subst, arith}
use Rattle.std.specs.Prelude.{map}
use Rattle.std.specs.Int.{w32, w64, to_be_bytes, from_be_bytes}
use Rattle.std.proofs.lemmas.Fmt.{signed_decimal_injective}
use Rattle.std.proofs.lemmas.Nat.{from_be_bytes-to_be_bytes_4, from_be_bytes-to_be_bytes_8}
use Rattle.serde_json.specs.Data.{string, array}
use Rattle.serde_json.specs.View.{items_of}
use Rattle.prefs_model.specs.declared.pref_value.PrefValue.{PrefValue}
use Rattle.prefs_model.specs.declared.pref_value.PrefValue.TheVariants.{Bool as Truth, Int, Long, Float, Double, Text, Texts}
use Rattle.prefs_model.specs.Texts.{set_of}
use Rattle.prefs_text.specs.Content.{IsContent, IsSetList}
use Rattle.prefs_text.specs.Reading.{IsValueText}
use Rattle.prefs_text.specs.ValueKind.{kind_of}
use Rattle.prefs_text.specs.ValueText.{truth_text, float_text, double_text}
use Rattle.prefs_text.proofs.Hexadecimals.{encode_lower_injective, IsBytes-to_be_bytes}
use Rattle.prefs_text.proofs.KindNames.{one_cut}

one_truth : (a b : Bool) → truth_text a ≡ truth_text b → a ≡ b
one_truth true true e = refl
one_truth true false e = cc
one_truth false true e = cc
one_truth false false e = refl

one_float : (a b : ℕ) → a < 2 ^ 32 → b < 2 ^ 32 → float_text a ≡ float_text b → a ≡ b
one_float a b fits also e =
    sym (from_be_bytes-to_be_bytes_4 a fits) ∙ ap (from_be_bytes w32) (encode_lower_injective (to_be_bytes w32 a) (to_be_bytes w32 b) (IsBytes-to_be_bytes w32 a) (IsBytes-to_be_bytes w32 b) e) ∙ from_be_bytes-to_be_bytes_4 b also

one_double : (a b : ℕ) → a < 2 ^ 64 → b < 2 ^ 64 → double_text a ≡ double_text b → a ≡ b
one_double a b fits also e =
    sym (from_be_bytes-to_be_bytes_8 a fits) ∙ ap (from_be_bytes w64) (encode_lower_injective (to_be_bytes w64 a) (to_be_bytes w64 b) (IsBytes-to_be_bytes w64 a) (IsBytes-to_be_bytes w64 b) e) ∙ from_be_bytes-to_be_bytes_8 b also

one_list : (first second : List (List ℕ)) → items_of (map string first) ≡ items_of (map string second) → first ≡ second
one_list [] [] e = refl
one_list [] (b ∷ second) e = absurd (cc e)
one_list (a ∷ first) [] e = absurd (cc e)
one_list (a ∷ first) (b ∷ second) e = let rest : first ≡ second = one_list first second cc in cc

one_set : (json : List ℕ) (a b : List (List ℕ)) → IsSetList json a → IsSetList json b → a ≡ b
one_set json a b h k =
    let items : Some (array (items_of (map string h.texts))) ≡ Some (array (items_of (map string k.texts))) = sym h.list.reads ∙ k.list.reads in
    let texts : h.texts ≡ k.texts = one_list h.texts k.texts cc in
    h.sorted ∙ ap set_of texts ∙ sym k.sorted

one_content : (content : List ℕ) (a b : PrefValue) → kind_of a ≡ kind_of b → IsContent content a → IsContent content b → a ≡ b
one_content content (Truth a) (Truth b) kinds h k = ap Truth (one_truth a b (sym h.text ∙ k.text))
one_content content (Truth a) _ kinds h k = absurd (cc kinds)
one_content content (Int a) (Int b) kinds h k = ap Int (signed_decimal_injective a b (omega (arith, h.valid.sfits)) (omega (arith, k.valid.sfits)) (sym h.text ∙ k.text))
one_content content (Int a) _ kinds h k = absurd (cc kinds)
one_content content (Long a) (Long b) kinds h k = ap Long (signed_decimal_injective a b (omega (arith, h.valid.sfits)) (omega (arith, k.valid.sfits)) (sym h.text ∙ k.text))
one_content content (Long a) _ kinds h k = absurd (cc kinds)
one_content content (Float a) (Float b) kinds h k = ap Float (one_float a b h.valid k.valid (sym h.text ∙ k.text))
one_content content (Float a) _ kinds h k = absurd (cc kinds)
one_content content (Double a) (Double b) kinds h k = ap Double (one_double a b h.valid k.valid (sym h.text ∙ k.text))
one_content content (Double a) _ kinds h k = absurd (cc kinds)
one_content content (Text a) (Text b) kinds h k = let same : Some (string a) ≡ Some (string b) = sym h.reads ∙ k.reads in ap Text cc
one_content content (Text a) _ kinds h k = absurd (cc kinds)
one_content content (Texts a) (Texts b) kinds h k = ap Texts (one_set content a b h k)
one_content content (Texts a) _ kinds h k = absurd (cc kinds)

pub one_value : (text : List ℕ) (a b : PrefValue) → IsValueText text a → IsValueText text b → a ≡ b
one_value text a b h k =
    let cut = one_cut (kind_of a) (kind_of b) h.content k.content (sym h.words ∙ k.words) in
    one_content h.content a b cut.0 h.reads (subst (λ content. IsContent content b) (sym cut.1) k.reads)
