-- Reading as functions: of a varint, a tag and a payload. What stands in the bytes is what they give, so
-- nothing else stands there.
use Rattle.std.proofs.Common.{◌≡◌, ℕ, zero, suc, ◌+◌, ◌-◌, ◌*◌, ◌/◌, ◌%◌, ◌^◌, ◌<◌, ◌≤◌, cond, ltb, eqb, List, [], ◌∷◌, ◌++◌, length, take, drop, Result, Ok, Err, refl, sym, ap, ◌∙◌, arith}
use Rattle.std.proofs.lemmas.Bool.{lt-ltb, le-ltb, cond-true, cond-false}
use Rattle.std.proofs.lemmas.List.{length-append, take_at, drop_at}
use Rattle.std.specs.Int.{w32, w64, from_le_bytes}
use Rattle.wire_codec.specs.declared.wire_error.WireError.{WireError}
use Rattle.wire_codec.specs.declared.wire_error.WireError.TheVariants.{VarintTooLong, TagTooLarge, FieldZero, BadWireType, PastEnd}
use Rattle.wire_codec.specs.Varint.{Spells, last, more, IsVarint, GoesOn}
use Rattle.wire_codec.specs.Tag.{IsTag}
use Rattle.wire_codec.specs.Payload.{PayloadSeen, varint, eight, delimited, group, four, wire_code, IsPlain}
use Rattle.wire_codec.specs.Faults.{VarintFault, too_long, cut, TagFault, no_varint, too_large, no_number, no_wire_type, PayloadFault, varint_fault, eight_cut, length_fault, text_cut, four_cut}

-- what is read from the front, and the bytes after it
abbrev pub Read : Type 0 → Type 0
Read A = Result (A × List ℕ) WireError

abbrev pub then_read : {A B : Type 0} → Read A → (A → List ℕ → Read B) → Read B
then_read (Ok x) f = f x.0 x.1
then_read (Err e) f = Err e

-- ---- a varint

abbrev pub carried_on : ℕ → Read ℕ → Read ℕ
carried_on b (Ok x) = Ok (b - 128 + 128 * x.0, x.1)
carried_on b (Err e) = Err e

-- the whole number in at most left bytes
unfoldable pub digits : ℕ → ℕ → List ℕ → Read ℕ
digits at zero bytes = Err (VarintTooLong at)
digits at (suc left) [] = Err (PastEnd at)
digits at (suc left) (b ∷ bytes) = cond (ltb b 128) (Ok (b, bytes)) (carried_on b (digits at left bytes))

digits_again : (at : ℕ) {text : List ℕ} {w : ℕ} → Spells text w → (left : ℕ) (rest : List ℕ) → length text ≤ left → digits at left (text ++ rest) ≡ Ok (w, rest)
unfolding digits
digits_again at (last lt) zero rest short = absurd (omega arith)
digits_again at (last {b} lt) (suc left) rest short = cond-true (ltb b 128) _ _ (lt-ltb b 128 lt)
digits_again at (more le lt s e) zero rest short = absurd (omega arith)
digits_again at (more {b} {high} {n} le lt s e) (suc left) rest short =
    cond-false (ltb b 128) _ _ (le-ltb b 128 le) ∙ ap (carried_on b) (digits_again at s left rest (omega arith))
    ∙ (let same : b - 128 + 128 * high ≡ n = omega arith in ap (λ (k : ℕ). Ok (k, rest)) same)

digits_cut : (at : ℕ) (bytes : List ℕ) (left : ℕ) → GoesOn bytes → length bytes < left → digits at left bytes ≡ Err (PastEnd at)
unfolding digits
digits_cut at bytes zero on short = absurd (omega arith)
digits_cut at [] (suc left) on short = refl
digits_cut at (b ∷ bytes) (suc left) on short = cond-false (ltb b 128) _ _ (le-ltb b 128 on.0) ∙ ap (carried_on b) (digits_cut at bytes left on.1 (omega arith))

digits_long : (at : ℕ) (ten rest : List ℕ) (left : ℕ) → GoesOn ten → length ten ≡ left → digits at left (ten ++ rest) ≡ Err (VarintTooLong at)
unfolding digits
digits_long at [] rest zero on count = refl
digits_long at [] rest (suc left) on count = absurd (omega arith)
digits_long at (b ∷ ten) rest zero on count = absurd (omega arith)
digits_long at (b ∷ ten) rest (suc left) on count = cond-false (ltb b 128) _ _ (le-ltb b 128 on.0) ∙ ap (carried_on b) (digits_long at ten rest left on.1 (omega arith))

-- the low 64 bits
abbrev pub number_at : ℕ → List ℕ → Read ℕ
number_at at bytes = then_read (digits at 10 bytes) (λ n rest. Ok (n % 2 ^ 64, rest))

pub number_again : (at : ℕ) {text : List ℕ} {n : ℕ} → IsVarint text n → (rest : List ℕ) → number_at at (text ++ rest) ≡ Ok (n, rest)
number_again at {text} {n} v rest =
    ap (λ (r : Read ℕ). then_read r (λ n rest. Ok (n % 2 ^ 64, rest))) (digits_again at v.spelt 10 rest v.short)
    ∙ ap (λ (k : ℕ). Ok (k, rest)) (sym v.low)

pub number_fault : {at : ℕ} {rest : List ℕ} {e : WireError} → VarintFault at rest e → number_at at rest ≡ Err e
number_fault {at} {rest} (too_long h) = ap (λ (r : Read ℕ). then_read r (λ n rest. Ok (n % 2 ^ 64, rest))) (ap (digits at 10) h.parts ∙ digits_long at h.ten h.rest 10 h.goes_on h.count)
number_fault {at} {rest} (cut h) = ap (λ (r : Read ℕ). then_read r (λ n rest. Ok (n % 2 ^ 64, rest))) (digits_cut at rest 10 h.goes_on h.short)

-- ---- a tag

abbrev pub tag_of : ℕ → ℕ → List ℕ → Read (ℕ × ℕ)
tag_of at v rest = cond (ltb v (2 ^ 32)) (cond (ltb v 8) (Err (FieldZero at)) (cond (ltb (v % 8) 6) (Ok ((v / 8, v % 8), rest)) (Err (BadWireType at)))) (Err (TagTooLarge at))

abbrev pub tag_at : ℕ → List ℕ → Read (ℕ × ℕ)
tag_at at bytes = then_read (number_at at bytes) (tag_of at)

abbrev tag_read : ℕ → ℕ → List ℕ → Read (ℕ × ℕ)
tag_read number code rest = Ok ((number, code), rest)

tag_from : (at v : ℕ) {text : List ℕ} → IsVarint text v → (bytes rest : List ℕ) → bytes ≡ text ++ rest → tag_at at bytes ≡ tag_of at v rest
tag_from at v is bytes rest parts = ap (tag_at at) parts ∙ ap (λ (r : Read ℕ). then_read r (tag_of at)) (number_again at is rest)

same_tag : (a b c d : ℕ) (rest : List ℕ) → a ≡ b → c ≡ d → tag_read a c rest ≡ tag_read b d rest
same_tag a b c d rest p q = rw (p, q) refl

pub tag_again : (at : ℕ) {text : List ℕ} {number code : ℕ} → IsTag text number code → code < 6 → (rest : List ℕ) → tag_at at (text ++ rest) ≡ Ok ((number, code), rest)
tag_again at {text} {number} {code} t plain rest =
    let in_range : number * 8 + code < 2 ^ 32 = omega (arith, t.number_fits) in
    let numbered : 8 ≤ number * 8 + code = omega (arith, t.numbered) in
    let code_is : (number * 8 + code) % 8 ≡ code = omega arith in
    let number_is : (number * 8 + code) / 8 ≡ number = omega arith in
    tag_from at (number * 8 + code) t.spelt (text ++ rest) rest refl
    ∙ cond-true _ _ _ (lt-ltb _ _ in_range) ∙ cond-false _ _ _ (le-ltb _ _ numbered)
    ∙ cond-true _ _ _ (lt-ltb ((number * 8 + code) % 8) 6 (omega (arith, code_is)))
    ∙ same_tag ((number * 8 + code) / 8) number ((number * 8 + code) % 8) code rest number_is code_is

pub tag_fault : {at : ℕ} {rest : List ℕ} {e : WireError} → TagFault at rest e → tag_at at rest ≡ Err e
tag_fault {at} (no_varint f) = ap (λ (r : Read ℕ). then_read r (tag_of at)) (number_fault f)
tag_fault {at} {rest} (too_large {v = v} text after parts is large) = tag_from at v is rest after parts ∙ cond-false _ _ _ (le-ltb _ _ large)
tag_fault {at} {rest} (no_number {v = v} text after parts is small) = tag_from at v is rest after parts ∙ cond-true _ _ _ (lt-ltb v (2 ^ 32) (omega arith)) ∙ cond-true _ _ _ (lt-ltb _ _ small)
tag_fault {at} {rest} (no_wire_type {v = v} text after parts is numbered fits bad) =
    tag_from at v is rest after parts ∙ cond-true _ _ _ (lt-ltb _ _ fits) ∙ cond-false _ _ _ (le-ltb _ _ numbered) ∙ cond-false _ _ _ (le-ltb _ _ bad)

-- ---- a payload, and its place

-- so many bytes lie between
abbrev pub passed : List ℕ → List ℕ → ℕ
passed bytes rest = length bytes - length rest

pub passed_is : (text rest : List ℕ) → passed (text ++ rest) rest ≡ length text
passed_is text rest = omega (arith, length-append text rest)

abbrev pub fixed_at : ℕ → ℕ → (List ℕ → PayloadSeen) → List ℕ → Read (PayloadSeen × ℕ)
fixed_at at width payload bytes = cond (ltb (length bytes) width) (Err (PastEnd at)) (Ok ((payload (take width bytes), at), drop width bytes))

abbrev pub text_of : ℕ → ℕ → List ℕ → Read (PayloadSeen × ℕ)
text_of at n bytes = cond (ltb (length bytes) n) (Err (PastEnd at)) (Ok ((delimited (take n bytes), at), drop n bytes))

abbrev pub payload_at : ℕ → ℕ → List ℕ → Read (PayloadSeen × ℕ)
payload_at at code bytes = cond (eqb code 0) (then_read (number_at at bytes) (λ n rest. Ok ((varint n, at), rest)))
    (cond (eqb code 1) (fixed_at at 8 (λ text. eight (from_le_bytes w64 text)) bytes)
    (cond (eqb code 2) (then_read (number_at at bytes) (λ n rest. text_of (at + passed bytes rest) n rest))
    (fixed_at at 4 (λ text. four (from_le_bytes w32 text)) bytes)))

fixed_again : (at width : ℕ) (payload : List ℕ → PayloadSeen) (text rest : List ℕ) → length text ≡ width → fixed_at at width payload (text ++ rest) ≡ Ok ((payload text, at), rest)
fixed_again at width payload text rest len =
    cond-false (ltb (length (text ++ rest)) width) _ _ (le-ltb _ _ (omega (arith, length-append text rest)))
    ∙ ap (λ (x : List ℕ). Ok ((payload x, at), drop width (text ++ rest))) (take_at text rest width len)
    ∙ ap (λ (x : List ℕ). Ok ((payload text, at), x)) (drop_at text rest width len)

text_again : (at : ℕ) (text rest : List ℕ) → text_of at (length text) (text ++ rest) ≡ Ok ((delimited text, at), rest)
text_again at text rest = fixed_again at (length text) delimited text rest refl

pub payload_again : (at : ℕ) (lead text : List ℕ) (payload : PayloadSeen) → IsPlain lead text payload → (rest : List ℕ) → payload_at at (wire_code payload) (lead ++ (text ++ rest)) ≡ Ok ((payload, at + length lead), rest)
payload_again at lead text (varint n) p rest = rw p.0 (ap (λ (r : Read ℕ). then_read r (λ n rest. Ok ((varint n, at), rest))) (number_again at p.1 rest) ∙ ap (λ (k : ℕ). Ok ((varint n, k), rest)) (omega arith))
payload_again at lead text (eight n) p rest = rw (p.0, p.2) (fixed_again at 8 (λ text. eight (from_le_bytes w64 text)) text rest p.1 ∙ ap (λ (k : ℕ). Ok ((eight (from_le_bytes w64 text), k), rest)) (omega arith))
payload_again at lead text (delimited bytes) p rest =
    ap (λ (r : Read ℕ). then_read r (λ n rest'. text_of (at + passed (lead ++ (text ++ rest)) rest') n rest')) (number_again at p.0 (text ++ rest))
    ∙ ap (λ (k : ℕ). text_of (at + k) (length bytes) (text ++ rest)) (passed_is lead (text ++ rest))
    ∙ ap (λ (x : List ℕ). text_of (at + length lead) (length bytes) (x ++ rest)) p.1
    ∙ text_again (at + length lead) bytes rest
payload_again at lead text group p rest = absurd p
payload_again at lead text (four n) p rest = rw (p.0, p.2) (fixed_again at 4 (λ text. four (from_le_bytes w32 text)) text rest p.1 ∙ ap (λ (k : ℕ). Ok ((four (from_le_bytes w32 text), k), rest)) (omega arith))

pub payload_fault : {at code : ℕ} {rest : List ℕ} {e : WireError} → PayloadFault at code rest e → payload_at at code rest ≡ Err e
payload_fault {at} (varint_fault f) = ap (λ (r : Read ℕ). then_read r (λ n rest. Ok ((varint n, at), rest))) (number_fault f)
payload_fault (eight_cut short) = cond-true _ _ _ (lt-ltb _ _ short)
payload_fault {at} {rest = rest} (length_fault f) = ap (λ (r : Read ℕ). then_read r (λ n rest'. text_of (at + passed rest rest') n rest')) (number_fault f)
payload_fault {at} {rest = rest} (text_cut {n = n} lead after parts is short) =
    ap (payload_at at 2) parts
    ∙ ap (λ (r : Read ℕ). then_read r (λ n rest'. text_of (at + passed (lead ++ after) rest') n rest')) (number_again at is after)
    ∙ ap (λ (k : ℕ). text_of (at + k) n after) (passed_is lead after)
    ∙ cond-true _ _ _ (lt-ltb _ _ short)
payload_fault (four_cut short) = cond-true _ _ _ (lt-ltb _ _ short)
