-- Reading a varint byte by byte.
use Rattle.std.proofs.Common.{◌≡◌, ℕ, ◌+◌, ◌-◌, ◌*◌, ◌%◌, ◌^◌, ◌<◌, ◌≤◌, List, [], ◌∷◌, ◌++◌, length, refl, sym, ap, subst, ◌∙◌, append_assoc, arith}
use Rattle.std.proofs.Math.Nat.{add-mod, mod-mod}
use Rattle.std.proofs.lemmas.Nat.{mul-mod_first}
use Rattle.std.proofs.lemmas.List.{append-nil, length-append}
use Rattle.wire_codec.specs.Varint.{Spells, last, more, GoesOn, IsCut, IsTooLong}
use Rattle.wire_codec.specs.declared.wire_error.WireError.TheVariants.{VarintTooLong, PastEnd}
use Rattle.wire_codec.specs.Cursor.{CursorSeen, Passes, PassesVarint}
use Rattle.wire_codec.specs.Faults.{VarintFault, too_long, cut}

-- ---- passing one text after another

pub passes_none : (c : CursorSeen) → Passes c [] c
passes_none c = record { rest = refl; place = omega arith }

pub passes_then : {a b c : CursorSeen} {x y : List ℕ} → Passes a x b → Passes b y c → Passes a (x ++ y) c
passes_then {a} {b} {c} {x} {y} p q = record {
  rest = p.rest ∙ ap (λ (t : List ℕ). x ++ t) q.rest ∙ sym (append_assoc x y c.rest);
  place = omega (arith, p.place, q.place, length-append x y);
}

pub goes_on_push : (bytes : List ℕ) (b : ℕ) → GoesOn bytes → 128 ≤ b → GoesOn (bytes ++ b ∷ [])
goes_on_push [] b h le = (le, tt)
goes_on_push (x ∷ bytes) b h le = (h.0, goes_on_push bytes b h.1 le)

-- ---- the numbers

wrapped : (v x y n m : ℕ) → ((v + x % m) % m + (y % m) * n) % m ≡ (v + x + y * n) % m
wrapped v x y n m =
    let inner : ((v + x % m) % m) % m ≡ (v + x) % m = mod-mod (v + x % m) m ∙ add-mod v (x % m) m ∙ ap (λ (k : ℕ). (v % m + k) % m) (mod-mod x m) ∙ sym (add-mod v x m) in
    add-mod ((v + x % m) % m) ((y % m) * n) m
    ∙ ap (λ (k : ℕ). (k + ((y % m) * n) % m) % m) inner
    ∙ ap (λ (k : ℕ). ((v + x) % m + k) % m) (mul-mod_first y n m)
    ∙ sym (add-mod (v + x) (y * n) m)

-- one more byte of 128 or more, in the number that the bytes behind it complete
carried : (v w b n : ℕ) → 128 ≤ b → b < 256 → v + w * (b % 128) + w * 128 * n ≡ v + w * (b - 128 + 128 * n)
carried v w b n le lt =
    let e : b % 128 ≡ b - 128 = omega arith in
    rw e (omega arith)

with_high : (b n : ℕ) → 128 ≤ b → b - 128 + 128 * n + 128 ≡ b + 128 * n
with_high b n le = omega arith

-- ---- the loop over the bytes of a varint

-- So many bytes are passed, each of which says that another follows; what completes the rest completes the number.
pub record InVarint (old now : CursorSeen) (count value worth : ℕ) : Type 0 where
  pub front : List ℕ
  pub passes : Passes old front now
  pub goes_on : GoesOn front
  pub counted : length front ≡ count
  pub completes : (tail : List ℕ) (n : ℕ) → Spells tail n → (w : ℕ) × Spells (front ++ tail) w × ((value + worth * n) % 2 ^ 64 ≡ w % 2 ^ 64)

pub in_varint_none : (c : CursorSeen) → InVarint c c 0 0 1
in_varint_none c = record {
  front = [];
  passes = passes_none c;
  goes_on = tt;
  counted = refl;
  completes = λ tail n s. (n, s, ap (λ (k : ℕ). k % 2 ^ 64) (omega arith));
}

pub in_varint_more : {old mid now : CursorSeen} {i v w v' w' b : ℕ} → InVarint old mid i v w → Passes mid (b ∷ []) now → 128 ≤ b → b < 256
    → v' ≡ (v + (w * (b % 128)) % 2 ^ 64) % 2 ^ 64 → w' ≡ (w * 128) % 2 ^ 64 → InVarint old now (i + 1) v' w'
in_varint_more {old} {mid} {now} {i} {v} {w} {v'} {w'} {b} h p le lt ev ew = record {
  front = h.front ++ b ∷ [];
  passes = passes_then h.passes p;
  goes_on = goes_on_push h.front b h.goes_on le;
  counted = omega (arith, length-append h.front (b ∷ []), h.counted);
  completes = λ tail n s.
      let all = h.completes (b ∷ tail) (b - 128 + 128 * n) (more le lt s (with_high b n le)) in
      (all.0, rw append_assoc all.1, rw (ev, ew) (wrapped v (w * (b % 128)) (w * 128) n (2 ^ 64) ∙ ap (λ (k : ℕ). k % 2 ^ 64) (carried v w b n le lt) ∙ all.2));
}

pub in_varint_last : {old mid now : CursorSeen} {i v w v' b : ℕ} → InVarint old mid i v w → Passes mid (b ∷ []) now → i < 10 → b < 128
    → v' ≡ (v + (w * (b % 128)) % 2 ^ 64) % 2 ^ 64 → PassesVarint old v' now
in_varint_last {old} {mid} {now} {i} {v} {w} {v'} {b} h p short lt ev =
    let all = h.completes (b ∷ []) b (last lt) in
    let e : b % 128 ≡ b = omega arith in
    record {
      text = h.front ++ b ∷ [];
      is_varint = record {
        whole = all.0;
        spelt = all.1;
        short = omega (arith, length-append h.front (b ∷ []), h.counted);
        low = rw (ev, e) (add-mod v ((w * b) % 2 ^ 64) (2 ^ 64) ∙ ap (λ (k : ℕ). (v % 2 ^ 64 + k) % 2 ^ 64) (mod-mod (w * b) (2 ^ 64)) ∙ sym (add-mod v (w * b) (2 ^ 64)) ∙ all.2);
      };
      passes = passes_then h.passes p;
    }

pub in_varint_cut : {old now : CursorSeen} {i v w : ℕ} → InVarint old now i v w → i < 10 → now.rest ≡ [] → IsCut old.rest
in_varint_cut {old} {now} h short e =
    let whole : old.rest ≡ h.front = h.passes.rest ∙ ap (λ (t : List ℕ). h.front ++ t) e ∙ append-nil h.front in
    rw whole (record { short = omega (arith, h.counted); goes_on = h.goes_on })

pub in_varint_too_long : {old now : CursorSeen} {v w : ℕ} → InVarint old now 10 v w → IsTooLong old.rest
in_varint_too_long {old} {now} h = record { ten = h.front; rest = now.rest; parts = h.passes.rest; count = h.counted; goes_on = h.goes_on }

pub cut_fault : {old now : CursorSeen} {i v w place : ℕ} → InVarint old now i v w → i < 10 → now.rest ≡ [] → place ≡ old.place → VarintFault old.place old.rest (PastEnd place)
cut_fault h short e p = rw p (cut (in_varint_cut h short e))

pub too_long_fault : {old now : CursorSeen} {i v w place : ℕ} → InVarint old now i v w → 10 ≤ i → i ≤ 10 → place ≡ old.place → VarintFault old.place old.rest (VarintTooLong place)
too_long_fault {old} {now} {i} {v} {w} h le ge p =
    let ten : i ≡ 10 = omega arith in
    let done : InVarint old now 10 v w = subst (λ (k : ℕ). InVarint old now k v w) ten h in
    rw p (too_long (in_varint_too_long done))
