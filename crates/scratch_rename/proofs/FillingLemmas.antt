-- One piece more of a list that is gone through piece by piece.
use Rattle.std.proofs.Common.{◌≡◌, ◌+◌, ◌≤◌, ◌∙◌, ℕ, zero, suc, List, [], ◌∷◌, ◌++◌, take, drop, length, refl, sym, ap, arith}
use Rattle.std.proofs.lemmas.List.{drop-drop, length-take, length-drop}
use Rattle.std.proofs.Math.Seq.{take-add}
use Rattle.scratch_rename.specs.Filling.{Filling, next_piece, filled_more}

-- to go past as many elements as were taken is to go past that many, or to the end
drop_taken : (n : ℕ) (xs : List ℕ) → drop (length (take n xs)) xs ≡ drop n xs
drop_taken zero xs = refl
drop_taken (suc n) [] = refl
drop_taken (suc n) (x ∷ xs) = drop_taken n xs

take_taken : (n : ℕ) (xs : List ℕ) → take (length (take n xs)) xs ≡ take n xs
take_taken zero xs = refl
take_taken (suc n) [] = refl
take_taken (suc n) (x ∷ xs) = ap (λ ys. x ∷ ys) (take_taken n xs)

written_more : (n at : ℕ) (bytes piece : List ℕ) → piece ≡ take n (drop at bytes) → take (at + length piece) bytes ≡ take at bytes ++ take n (drop at bytes)
written_more n at bytes piece e = rw e (take-add at _ bytes ∙ ap (λ ys. take at bytes ++ ys) (take_taken n (drop at bytes)))

rest_more : (n at : ℕ) (bytes piece : List ℕ) → piece ≡ take n (drop at bytes) → drop (at + length piece) bytes ≡ drop n (drop at bytes)
rest_more n at bytes piece e = rw e (sym (drop-drop _ at bytes) ∙ drop_taken n (drop at bytes))

-- the next piece ends within the list
pub piece_within : (plan : Filling) (at : ℕ) (bytes piece : List ℕ) → record { written = take at bytes; rest = drop at bytes } ≡ plan → piece ≡ take 4096 plan.rest
    → at ≤ length bytes → at + length piece ≤ length bytes
piece_within plan at bytes piece is e within =
    let next : piece ≡ take 4096 (drop at bytes) = rw (ap (λ p. p.rest) is) e in
    rw next (omega (arith, length-take 4096 (drop at bytes), length-drop at bytes))

-- as many bytes are written as the place of the next one says
pub length_written : (plan : Filling) (at : ℕ) (bytes : List ℕ) → record { written = take at bytes; rest = drop at bytes } ≡ plan → at ≤ length bytes → length plan.written ≡ at
length_written plan at bytes is within = rw (← ap (λ p. p.written) is) (omega (arith, length-take at bytes))

-- once the next piece is written
pub filled_by : (plan : Filling) (at : ℕ) (bytes piece : List ℕ) → record { written = take at bytes; rest = drop at bytes } ≡ plan → piece ≡ take 4096 plan.rest
    → record { written = take (at + length piece) bytes; rest = drop (at + length piece) bytes } ≡ filled_more plan
filled_by plan at bytes piece is e =
    let begun : take at bytes ≡ plan.written = ap (λ p. p.written) is in
    let left : drop at bytes ≡ plan.rest = ap (λ p. p.rest) is in
    let next : piece ≡ take 4096 (drop at bytes) = rw left e in
    let written = written_more 4096 at bytes piece next in
    let rest = rest_more 4096 at bytes piece next in
    cc

pub piece_le : (plan : Filling) → length (next_piece plan) ≤ 4096
piece_le plan = omega (arith, length-take 4096 plan.rest)
