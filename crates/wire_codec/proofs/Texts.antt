-- Writing a varint byte by byte, and what is written of a field.
use Rattle.std.proofs.Common.{◌≡◌, ℕ, zero, suc, ◌+◌, ◌*◌, ◌/◌, ◌%◌, ◌^◌, ◌<◌, ◌≤◌, ltb, List, [], ◌∷◌, ◌++◌, length, take, refl, sym, ap, subst, ◌∙◌, append_assoc, arith, inl, inr}
use Rattle.std.proofs.Math.Nat.{pow-suc}
use Rattle.std.proofs.lemmas.Bool.{lt-ltb, le-ltb, cond-true, cond-false, cases_lt}
use Rattle.std.proofs.lemmas.Nat.{div_below, from_le_bytes-to_le_bytes_4, from_le_bytes-to_le_bytes_8}
use Rattle.std.proofs.lemmas.List.{append-nil, take_at}
use Rattle.wire_codec.specs.Varint.{Spells, last, more, IsShortest, IsVarint}
use Rattle.wire_codec.specs.Tag.{IsTag}
use Rattle.wire_codec.specs.Payload.{PayloadSeen, varint, eight, delimited, group, four, wire_code}
use Rattle.wire_codec.specs.Fields.{IsPayload, IsField, Fields, FieldSeen}
use Rattle.wire_codec.specs.Text.{base_128, varint_text, tag_text, lead_text, payload_text, field_text, IsWritable, written_field, Extends}
use Rattle.wire_codec.proofs.Groups.{spells_length}
use Rattle.wire_codec.proofs.Walk.{fields_push}

-- ---- the text of a number

one_byte : (enough n : ℕ) → n < 128 → base_128 (suc enough) n ≡ n ∷ []
unfolding base_128
one_byte enough n lt = cond-true (ltb n 128) _ _ (lt-ltb n 128 lt)

more_bytes : (enough n : ℕ) → 128 ≤ n → base_128 (suc enough) n ≡ (n % 128 + 128) ∷ base_128 enough (n / 128)
unfolding base_128
more_bytes enough n le = cond-false (ltb n 128) _ _ (le-ltb n 128 le)

high_fits : (enough n : ℕ) → n < 128 ^ suc enough → n / 128 < 128 ^ enough
high_fits enough n fits = div_below n 128 (128 ^ enough) (omega arith) (rw pow-suc at fits)

high_some : (enough n : ℕ) → n < 128 ^ enough → 128 ≤ n → 2 ≤ enough
high_some zero n fits le = absurd (omega arith)
high_some (suc zero) n fits le = absurd (omega arith)
high_some (suc (suc enough)) n fits le = omega arith

base_128_spells : (enough n : ℕ) → 1 ≤ enough → n < 128 ^ enough → Spells (base_128 enough n) n
base_128_spells zero n some fits = absurd (omega arith)
base_128_spells (suc enough) n some fits =
    elim (cases_lt n 128) [
      | inl lt ↦ rw (one_byte enough n lt) (last lt)
      | inr le ↦ rw (more_bytes enough n le) (more {b = n % 128 + 128} {n = n} (omega arith) (omega arith) (base_128_spells enough (n / 128) (omega (arith, high_some (suc enough) n fits le)) (high_fits enough n fits)) (omega arith))
    ]

base_128_least : (enough n : ℕ) {other : List ℕ} → n < 128 ^ enough → Spells other n → length (base_128 enough n) ≤ length other
unfolding base_128
base_128_least zero n fits s = omega (arith, spells_length s)
base_128_least (suc enough) n fits (last lt) = rw (one_byte enough n lt) (omega arith)
base_128_least (suc enough) n fits (more {b} {high} {bytes = bytes} le lt s e) =
    elim (cases_lt n 128) [
      | inl small ↦ rw (one_byte enough n small) (omega arith)
      | inr large ↦
          let high_is : high ≡ n / 128 = omega arith in
          let others : Spells bytes (n / 128) = subst (λ (k : ℕ). Spells bytes k) high_is s in
          rw (more_bytes enough n large) (omega (arith, base_128_least enough (n / 128) (high_fits enough n fits) others))
    ]

base_128_length : (enough n : ℕ) → length (base_128 enough n) ≤ enough
unfolding base_128
base_128_length zero n = omega arith
base_128_length (suc enough) n =
    elim (cases_lt n 128) [
      | inl lt ↦ rw (one_byte enough n lt) (omega arith)
      | inr le ↦ rw (more_bytes enough n le) (omega (arith, base_128_length enough (n / 128)))
    ]

-- bytes that are not needed change nothing
base_128_enough : (enough n : ℕ) → 1 ≤ enough → n < 128 ^ enough → base_128 (suc enough) n ≡ base_128 enough n
base_128_enough zero n some fits = absurd (omega arith)
base_128_enough (suc enough) n some fits =
    elim (cases_lt n 128) [
      | inl lt ↦ one_byte (suc enough) n lt ∙ sym (one_byte enough n lt)
      | inr le ↦ more_bytes (suc enough) n le
          ∙ ap (λ (tail : List ℕ). (n % 128 + 128) ∷ tail) (base_128_enough enough (n / 128) (omega (arith, high_some (suc enough) n fits le)) (high_fits enough n fits))
          ∙ sym (more_bytes enough n le)
    ]

ten_are_enough : (n : ℕ) → n < 2 ^ 64 → n < 128 ^ 10
ten_are_enough n fits = omega arith

pub varint_text_shortest : (n : ℕ) → n < 2 ^ 64 → IsShortest (varint_text n) n
varint_text_shortest n fits = record {
  spelt = base_128_spells 10 n (omega arith) (ten_are_enough n fits);
  least = λ other s. base_128_least 10 n (ten_are_enough n fits) s;
}

pub varint_text_is : (n : ℕ) → n < 2 ^ 64 → IsVarint (varint_text n) n
varint_text_is n fits = record {
  whole = n;
  spelt = base_128_spells 10 n (omega arith) (ten_are_enough n fits);
  short = base_128_length 10 n;
  low = omega arith;
}

-- ---- how long it is

pub varint_text_within : (n : ℕ) → length (varint_text n) ≤ 10
varint_text_within n = base_128_length 10 n

pub length_last : (n : ℕ) → n < 128 → length (varint_text n) ≡ 1
length_last n lt = ap length (one_byte 9 n lt)

pub length_more : (n : ℕ) → n < 2 ^ 64 → 128 ≤ n → length (varint_text n) ≡ 1 + length (varint_text (n / 128))
length_more n fits le =
    let same : base_128 10 (n / 128) ≡ base_128 9 (n / 128) = base_128_enough 9 (n / 128) (omega arith) (high_fits 9 n (ten_are_enough n fits)) in
    omega (arith, ap length (more_bytes 9 n le), ap length same)

-- ---- the loop that writes it

-- The rest of the number is still to be written.
pub record InText (old now : List ℕ) (value rest : ℕ) : Type 0 where
  pub enough : ℕ
  pub some : 1 ≤ enough
  pub fits : rest < 128 ^ enough
  pub same : now ++ base_128 enough rest ≡ old ++ varint_text value
  pub extends : Extends old now

pub extends_none : (bytes : List ℕ) → Extends bytes bytes
extends_none bytes = record { more = []; parts = sym (append-nil bytes) }

pub extends_then : {a b c : List ℕ} → Extends a b → Extends b c → Extends a c
extends_then {a} p q = record { more = p.more ++ q.more; parts = q.parts ∙ ap (λ (x : List ℕ). x ++ q.more) p.parts ∙ append_assoc a p.more q.more }

pub extends_by : {a b : List ℕ} (more : List ℕ) → b ≡ a ++ more → Extends a b
extends_by text e = record { more = text; parts = e }

pub extends_take : {a b : List ℕ} → Extends a b → take (length a) b ≡ a
extends_take {a} h = ap (take (length a)) h.parts ∙ take_at a h.more (length a) refl

pub in_text_none : (old : List ℕ) (value : ℕ) → value < 2 ^ 64 → InText old old value value
in_text_none old value fits = record { enough = 10; some = omega arith; fits = ten_are_enough value fits; same = refl; extends = extends_none old }

text_more : (old now next : List ℕ) (value rest enough : ℕ) → 1 ≤ enough → rest < 128 ^ enough → now ++ base_128 enough rest ≡ old ++ varint_text value → Extends old now
    → 128 ≤ rest → next ≡ now ++ (rest % 128 + 128) ∷ [] → InText old next value (rest / 128)
text_more old now next value rest zero some fits same ext le e = absurd (omega arith)
text_more old now next value rest (suc enough) some fits same ext le e = record {
  enough = enough;
  some = omega (arith, high_some (suc enough) rest fits le);
  fits = high_fits enough rest fits;
  same = ap (λ (x : List ℕ). x ++ base_128 enough (rest / 128)) e ∙ append_assoc now ((rest % 128 + 128) ∷ []) (base_128 enough (rest / 128)) ∙ ap (λ (x : List ℕ). now ++ x) (sym (more_bytes enough rest le)) ∙ same;
  extends = extends_then ext (extends_by _ e);
}

pub in_text_more : {old now next : List ℕ} {value rest : ℕ} → InText old now value rest → 128 ≤ rest → next ≡ now ++ (rest % 128 + 128) ∷ [] → InText old next value (rest / 128)
in_text_more {old} {now} {next} {value} {rest} h le e = text_more old now next value rest h.enough h.some h.fits h.same h.extends le e

text_last : (old now next : List ℕ) (value rest enough : ℕ) → 1 ≤ enough → now ++ base_128 enough rest ≡ old ++ varint_text value → rest < 128 → next ≡ now ++ rest ∷ [] → next ≡ old ++ varint_text value
text_last old now next value rest zero some same lt e = absurd (omega arith)
text_last old now next value rest (suc enough) some same lt e = e ∙ ap (λ (x : List ℕ). now ++ x) (sym (one_byte enough rest lt)) ∙ same

pub in_text_last : {old now next : List ℕ} {value rest : ℕ} → InText old now value rest → rest < 128 → next ≡ now ++ rest ∷ [] → next ≡ old ++ varint_text value
in_text_last {old} {now} {next} {value} {rest} h lt e = text_last old now next value rest h.enough h.some h.same lt e

-- ---- what is written is read

code_fits : (payload : PayloadSeen) → wire_code payload < 8
code_fits (varint n) = omega arith
code_fits (eight n) = omega arith
code_fits (delimited bytes) = omega arith
code_fits group = omega arith
code_fits (four n) = omega arith

tag_text_is : (number : ℕ) (payload : PayloadSeen) → 1 ≤ number → number < 2 ^ 29 → IsTag (tag_text number payload) number (wire_code payload)
tag_text_is number payload from to = record {
  spelt = varint_text_is (number * 8 + wire_code payload) (omega (arith, code_fits payload));
  code_fits = code_fits payload;
  numbered = from;
  number_fits = to;
}

payload_text_is : (number : ℕ) (payload : PayloadSeen) → IsWritable payload → IsPayload number (lead_text payload) (payload_text payload) payload
payload_text_is number (varint n) fits = (refl, varint_text_is n fits)
payload_text_is number (eight n) fits = (refl, refl, sym (from_le_bytes-to_le_bytes_8 n fits))
payload_text_is number (delimited bytes) fits = (varint_text_is (length bytes) fits, refl)
payload_text_is number group fits = absurd fits
payload_text_is number (four n) fits = (refl, refl, sym (from_le_bytes-to_le_bytes_4 n fits))

pub written_is_field : (at number : ℕ) (payload : PayloadSeen) → 1 ≤ number → number < 2 ^ 29 → IsWritable payload → IsField at (field_text number payload) (written_field at number payload)
written_is_field at number payload from to fits = record {
  tag = tag_text number payload;
  lead = lead_text payload;
  text = payload_text payload;
  parts = refl;
  is_tag = tag_text_is number payload from to;
  is_payload = payload_text_is number payload fits;
  place = refl;
  payload_place = refl;
}

-- one more field is written behind fields
pub written_fields_push : {at : ℕ} {bytes : List ℕ} (fields : List FieldSeen) (number : ℕ) (payload : PayloadSeen) → 1 ≤ number → number < 2 ^ 29 → IsWritable payload → Fields at bytes fields
    → Fields at (bytes ++ field_text number payload) (fields ++ written_field (at + length bytes) number payload ∷ [])
written_fields_push {at} {bytes} fields number payload from to fits f = fields_push fields f (written_is_field (at + length bytes) number payload from to fits)
