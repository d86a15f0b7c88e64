-- The text of a value is a message that gives the value.
use Rattle.std.proofs.Common.{◌≡◌, ℕ, ◌+◌, ◌%◌, ◌^◌, ◌<◌, ◌≤◌, true, false, List, [], ◌∷◌, ◌++◌, length, map, reverse, All, Option, None, Some, refl, sym, ap, subst, ◌∙◌, arith, length-append}
use Rattle.std.specs.Prelude.{ℤ, pos, negsuc, FitsSigned}
use Rattle.std.specs.Int.{w32, w64, cast_signed, cast_unsigned}
use Rattle.std.specs.Str.{IsUtf8}
use Rattle.std.proofs.lemmas.Int.{to_z-of_z}
use Rattle.std.proofs.lemmas.List.Elements.{All-head, All-tail}
use Rattle.wire_codec.specs.Payload.{PayloadSeen, varint, eight, delimited, four}
use Rattle.wire_codec.specs.Text.{base_128, field_text, written_field, IsWritable}
use Rattle.prefs_model.specs.declared.pref_value.PrefValue.{PrefValue}
use Rattle.prefs_model.specs.declared.pref_value.PrefValue.TheVariants as kinds
use Rattle.prefs_model.specs.Value.{IsValue}
use Rattle.prefs_model.specs.Texts.{set_of}
use Rattle.prefs_model.proofs.Sets.{is_set_of}
use Rattle.prefs_proto.specs.FieldText.{field}
use Rattle.prefs_proto.specs.ValueText.{set_text, value_text}
use Rattle.prefs_proto.specs.Layout.{TextSeen, SetGives, IsStringSet, MemberSeen, scalar, text, texts, ValueGives, IsValueMessage}
use Rattle.prefs_proto.specs.Entry.{bytes_of_text, value_back}
use Rattle.prefs_proto.specs.Reads.{least, bad_text, texts_of_member}
use Rattle.prefs_proto.specs.Found.{bad_member}
use Rattle.prefs_proto.specs.Laws.Fields.{length-field, field_1, field_5, field_6, is_written, message_none, message_more, message_one}
use Rattle.prefs_proto.specs.Laws.Places.{bad_text-append, bad_among-one, good_text}

-- ---- a string set

pub record SetWritten (at : ℕ) (all : List (List ℕ)) : Type 0 where
  pub seen : List TextSeen
  pub is_set : IsStringSet at (set_text all) seen
  pub bytes_are : map bytes_of_text seen ≡ all
  pub good : bad_text seen ≡ None

set_text-cons : (t : List ℕ) (all : List (List ℕ)) → set_text (t ∷ all) ≡ field 0x0a t ++ set_text all
unfolding set_text
set_text-cons t all = refl

set_text-nil : set_text [] ≡ []
unfolding set_text
set_text-nil = refl

pub set_written : (at : ℕ) (all : List (List ℕ)) → All IsUtf8 all → length (set_text all) < 2 ^ 64 → SetWritten at all
set_written at [] utf8 fits = record { seen = []; is_set = subst (λ (b : List ℕ). IsStringSet at b []) (sym set_text-nil) (message_none SetGives at); bytes_are = refl; good = refl }
set_written at (t ∷ all) utf8 fits =
    let front = field 0x0a t in
    let whole : length (set_text (t ∷ all)) ≡ length front + length (set_text all) = ap length (set_text-cons t all) ∙ length-append front (set_text all) in
    let small : length t < 2 ^ 64 = omega (arith, whole, length-field 0x0a t) in
    let behind = set_written (at + length front) all (All-tail IsUtf8 t all utf8) (omega (arith, whole)) in
    let f = written_field at 1 (delimited t) in
    let seen : TextSeen = record { place = f.payload_place; bytes = t } in
    record {
      seen = seen ∷ behind.seen;
      is_set = subst (λ (b : List ℕ). IsStringSet at b (seen ∷ behind.seen)) (sym (set_text-cons t all))
          (message_more SetGives at front (set_text all) f (seen ∷ []) behind.seen (is_written at 1 (delimited t) front (omega arith) (omega arith) small (field_1 t)) refl behind.is_set);
      bytes_are = ap (λ (b : List (List ℕ)). t ∷ b) behind.bytes_are;
      good = bad_text-append (seen ∷ []) behind.seen ∙ ap (λ (b : Option ℕ). least b (bad_text behind.seen)) (good_text f.payload_place t (All-head IsUtf8 t all utf8)) ∙ behind.good;
    }

-- ---- a value

pub record ValueWritten (at : ℕ) (v : PrefValue) : Type 0 where
  pub members : List MemberSeen
  pub is_value : IsValueMessage at (value_text v) members
  pub value_is : value_back (reverse members) ≡ Some v
  pub good : bad_member members ≡ None

bits_fit : (n : ℤ) → FitsSigned w32 n → cast_unsigned w64 n < 2 ^ 64
bits_fit (pos n) fits = omega (arith, fits.sfits)
bits_fit (negsuc n) fits = omega arith

long_bits_fit : (n : ℤ) → FitsSigned w64 n → cast_unsigned w64 n < 2 ^ 64
long_bits_fit (pos n) fits = omega (arith, fits.sfits)
long_bits_fit (negsuc n) fits = omega arith

low_bits : (n : ℤ) → FitsSigned w32 n → cast_unsigned w64 n % 2 ^ 32 ≡ cast_unsigned w32 n
low_bits (pos n) fits = omega (arith, fits.sfits)
low_bits (negsuc n) fits = omega (arith, fits.sfits)

-- the one member of a value that is a number
scalar_written : (at number : ℕ) (payload : PayloadSeen) (v : PrefValue) → 1 ≤ number → number < 2 ^ 29 → IsWritable payload → value_text v ≡ field_text number payload
    → ValueGives (written_field at number payload) (scalar v ∷ []) → ValueWritten at v
scalar_written at number payload v from to fits is gives = record {
  members = scalar v ∷ [];
  is_value = message_one ValueGives at (value_text v) (written_field at number payload) (scalar v) (is_written at number payload (value_text v) from to fits is) gives;
  value_is = refl;
  good = refl;
}

scalars_same : (v w : PrefValue) → v ≡ w → scalar v ∷ [] ≡ scalar w ∷ []
scalars_same v w is = ap (λ (x : PrefValue). scalar x ∷ []) is

pub value_written : (at : ℕ) (v : PrefValue) → IsValue v → length (value_text v) < 2 ^ 64 → ValueWritten at v
unfolding value_text base_128
value_written at (kinds.Bool true) is small = scalar_written at 1 (varint 1) (kinds.Bool true) (omega arith) (omega arith) (omega arith) refl refl
value_written at (kinds.Bool false) is small = scalar_written at 1 (varint 0) (kinds.Bool false) (omega arith) (omega arith) (omega arith) refl refl
value_written at (kinds.Int n) is small =
    let bits = cast_unsigned w64 n in
    let back : cast_signed w32 (bits % 2 ^ 32) ≡ n = ap (cast_signed w32) (low_bits n is) ∙ to_z-of_z w32 n is in
    scalar_written at 3 (varint bits) (kinds.Int n) (omega arith) (omega arith) (bits_fit n is) refl
    (ap (λ (k : ℤ). scalar (kinds.Int k) ∷ []) (sym back))
value_written at (kinds.Long n) is small =
    let bits = cast_unsigned w64 n in
    scalar_written at 4 (varint bits) (kinds.Long n) (omega arith) (omega arith) (long_bits_fit n is) refl
    (ap (λ (k : ℤ). scalar (kinds.Long k) ∷ []) (sym (to_z-of_z w64 n is)))
value_written at (kinds.Float bits) is small = scalar_written at 2 (four bits) (kinds.Float bits) (omega arith) (omega arith) is refl refl
value_written at (kinds.Double bits) is small = scalar_written at 7 (eight bits) (kinds.Double bits) (omega arith) (omega arith) is refl refl
value_written at (kinds.Text t) is small =
    let fits : length t < 2 ^ 64 = omega (arith, length-field 0x2a t) in
    let f = written_field at 5 (delimited t) in
    let seen : TextSeen = record { place = f.payload_place; bytes = t } in
    record {
      members = text seen ∷ [];
      is_value = message_one ValueGives at (field 0x2a t) f (text seen) (is_written at 5 (delimited t) (field 0x2a t) (omega arith) (omega arith) fits (field_5 t)) refl;
      value_is = refl;
      good = good_text f.payload_place t is;
    }
value_written at (kinds.Texts all) is small =
    let inner = set_text all in
    let fits : length inner < 2 ^ 64 = omega (arith, length-field 0x32 inner) in
    let f = written_field at 6 (delimited inner) in
    let set = set_written f.payload_place all is.valid fits in
    record {
      members = texts set.seen ∷ [];
      is_value = message_one ValueGives at (field 0x32 inner) f (texts set.seen) (is_written at 6 (delimited inner) (field 0x32 inner) (omega arith) (omega arith) fits (field_6 inner)) (set.seen, set.is_set, refl);
      value_is = ap (λ (b : List (List ℕ)). Some (kinds.Texts (set_of b))) set.bytes_are ∙ ap (λ (b : List (List ℕ)). Some (kinds.Texts b)) (sym (is_set_of all all is (λ t. refl)));
      good = bad_among-one texts_of_member (texts set.seen) ∙ set.good;
    }
