-- What is printed of a value is one whole word, and no semicolon.
use Rattle.std.proofs.Common.{◌≡◌, ◌≢◌, ◌⊎◌, ◌<◌, ◌^◌, ◌/◌, ◌%◌, ◌==◌, ◌&&◌, inl, inr, ℕ, ℤ, pos, negsuc, suc, List, [], ◌∷◌, All, Bool, true, false, get_or, codes, refl, arith}
use Rattle.std.specs.Prelude.{not}
use Rattle.std.specs.List.{list_all}
use Rattle.std.specs.Fmt.{decimal, signed_decimal}
use Rattle.std.specs.Int.{w32, w64, to_be_bytes}
use Rattle.std.specs.Str.{bytes_eq}
use Rattle.std.specs.Str.Parse.{AllDigits}
use Rattle.std.proofs.lemmas.Bool.{and_parts}
use Rattle.std.proofs.lemmas.Fmt.{decimal_is_IsNumeral}
use Rattle.std.proofs.lemmas.List.Elements.{All-nil, All-cons, All-from_get_or, All-get_or, All-weaker}
use Rattle.std.proofs.lemmas.Slice.Eq.{bytes_eq-Decides}
use Rattle.std.proofs.lemmas.Str.Parse.{digit_at}
use lib.Signed.{mag}
use Rattle.hex.specs.Hex.{encode_with, IsBytes, lower_digits}
use Rattle.json.specs.Print.{quoted}
use Rattle.prefs_model.specs.Value.{IsValue}
use Rattle.prefs_model.specs.declared.pref_value.PrefValue.{PrefValue}
use Rattle.prefs_model.specs.declared.pref_value.PrefValue.TheVariants.{Bool as Truth, Int, Long, Float, Double, Text, Texts}
use Rattle.prefs_text.specs.ValueText.{plain_text, truth_text}
use Rattle.prefs_text.proofs.Hexadecimals.{IsBytes-to_be_bytes}
use Rattle.script_words.specs.Parts.{is_semicolon}
use Rattle.script_words.specs.Words.{HasMark, IsWhole}
use Rattle.script_words.proofs.PrintedWords.{not_same, whole_list, whole_quoted}

-- a byte that neither marks nor ends a word, and is no semicolon
pub record IsPlain (byte : ℕ) : Type 0 where
  pub space : byte ≢ 32
  pub quote : byte ≢ 34
  pub bracket : byte ≢ 91
  pub semicolon : byte ≢ 59

abbrev pub is_plain : ℕ → Bool
is_plain byte = not (byte == 32) && (not (byte == 34) && (not (byte == 91) && not (byte == 59)))

plain_by_test : (word : List ℕ) → list_all is_plain word ≡ true → All IsPlain word
plain_by_test [] h = All-nil IsPlain
plain_by_test (byte ∷ word) h =
    let parts = and_parts (is_plain byte) (list_all is_plain word) h in
    let first = and_parts (not (byte == 32)) (not (byte == 34) && (not (byte == 91) && not (byte == 59))) parts.0 in
    let second = and_parts (not (byte == 34)) (not (byte == 91) && not (byte == 59)) first.1 in
    let third = and_parts (not (byte == 91)) (not (byte == 59)) second.1 in
    All-cons IsPlain byte word (record { space = not_same byte 32 first.0; quote = not_same byte 34 second.0; bracket = not_same byte 91 third.0; semicolon = not_same byte 59 third.1 })
    (plain_by_test word parts.1)

-- one whole word, and no semicolon
pub record IsPrinted (word : List ℕ) : Type 0 where
  pub whole : IsWhole word
  pub other : is_semicolon word ≡ false

no_semicolon : (word : List ℕ) → word ≢ 59 ∷ [] → is_semicolon word ≡ false
no_semicolon word differs = elim (told (bytes_eq word (59 ∷ []))) [
  | inl same ↦ absurd (differs ((bytes_eq-Decides word (59 ∷ [])).0 same))
  | inr other ↦ other
]
  where
    told : (b : Bool) → (b ≡ true) ⊎ (b ≡ false)
    told true = inl refl
    told false = inr refl

unmarked_plain : (word : List ℕ) → All IsPlain word → ¬ HasMark word
unmarked_plain [] plain marked = elim marked [ inl e ↦ omega arith | inr e ↦ omega arith ]
unmarked_plain (byte ∷ word) plain marked =
    let first : IsPlain byte = plain 0 byte (omega arith) in
    elim marked [ inl e ↦ first.quote e | inr e ↦ first.bracket e ]

differs_plain : (word : List ℕ) → All IsPlain word → word ≢ 59 ∷ []
differs_plain [] plain e = cc
differs_plain (byte ∷ word) plain e = let first : IsPlain byte = plain 0 byte (omega arith) in first.semicolon cc

pub printed_plain : (word : List ℕ) → All IsPlain word → IsPrinted word
printed_plain word plain = record {
  whole = record { front = []; rest = word; parts = refl; begins = inr (refl, unmarked_plain word plain); spaceless = All-weaker IsPlain (λ byte. byte ≢ 32) (λ byte p. p.space) word plain };
  other = no_semicolon word (differs_plain word plain);
}

pub printed_by_test : (word : List ℕ) → list_all is_plain word ≡ true → IsPrinted word
printed_by_test word h = printed_plain word (plain_by_test word h)

plain_digits : (digits : List ℕ) → AllDigits 10 digits → All IsPlain digits
plain_digits digits all = All-from_get_or IsPlain digits 0 (λ place within.
    let range = digit_at digits place all within in
    record { space = (λ e. absurd (omega (arith, range.0))); quote = (λ e. absurd (omega (arith, range.0))); bracket = (λ e. absurd (omega (arith, range.1))); semicolon = (λ e. absurd (omega (arith, range.1))) })

plain_decimal : (n : ℕ) → n < 2 ^ 64 → All IsPlain (decimal n)
plain_decimal n fits = plain_digits (decimal n) (decimal_is_IsNumeral n fits).0.1

minus : IsPlain 45
minus = record { space = (λ e. absurd (omega (arith, e))); quote = (λ e. absurd (omega (arith, e))); bracket = (λ e. absurd (omega (arith, e))); semicolon = (λ e. absurd (omega (arith, e))) }

pub plain_signed : (z : ℤ) → mag z < 2 ^ 63 → All IsPlain (signed_decimal z)
plain_signed (pos n) fits = plain_decimal n (omega (arith, fits))
plain_signed (negsuc n) fits = All-cons IsPlain 45 (decimal (suc n)) minus (plain_decimal (suc n) (omega (arith, fits)))

plain_table : All IsPlain lower_digits
plain_table = plain_by_test lower_digits refl

plain_hex : (bytes : List ℕ) → IsBytes bytes → All IsPlain (encode_with lower_digits bytes)
unfolding encode_with
plain_hex [] are = All-nil IsPlain
plain_hex (byte ∷ bytes) are =
    let fits : byte < 256 = are 0 in
    let high = All-get_or IsPlain lower_digits (byte / 16) 0 (omega (arith, fits)) plain_table in
    let low = All-get_or IsPlain lower_digits (byte % 16) 0 (omega arith) plain_table in
    All-cons IsPlain (get_or lower_digits (byte / 16) 0) (get_or lower_digits (byte % 16) 0 ∷ encode_with lower_digits bytes) high
    (All-cons IsPlain (get_or lower_digits (byte % 16) 0) (encode_with lower_digits bytes) low (plain_hex bytes (λ place. are (suc place))))

printed_truth : (b : Bool) → IsPrinted (truth_text b)
printed_truth true = printed_by_test (codes "true") refl
printed_truth false = printed_by_test (codes "false") refl

pub printed_quoted : (text : List ℕ) → IsPrinted (quoted text)
printed_quoted text = record { whole = whole_quoted text; other = refl }

pub printed_value : (value : PrefValue) → IsValue value → IsPrinted (plain_text value)
printed_value (Truth b) valid = printed_truth b
printed_value (Int number) valid = printed_plain (signed_decimal number) (plain_signed number (omega (arith, valid.sfits)))
printed_value (Long number) valid = printed_plain (signed_decimal number) (plain_signed number (omega (arith, valid.sfits)))
printed_value (Float bits) valid = printed_plain (encode_with lower_digits (to_be_bytes w32 bits)) (plain_hex (to_be_bytes w32 bits) (IsBytes-to_be_bytes w32 bits))
printed_value (Double bits) valid = printed_plain (encode_with lower_digits (to_be_bytes w64 bits)) (plain_hex (to_be_bytes w64 bits) (IsBytes-to_be_bytes w64 bits))
printed_value (Text text) valid = printed_quoted text
printed_value (Texts texts) valid = record { whole = whole_list texts; other = refl }
