-- How the lines of bytes go on behind the first of them.
use Rattle.std.proofs.Common.{◌≡◌, ◌==◌, ◌+◌, ◌<◌, ◌≤◌, ◌∙◌, ℕ, Bool, true, false, cond, List, [], ◌∷◌, Some, None, length, take, drop, ap, refl, arith}
use Rattle.std.specs.List.{position, position_or_len, slice_split, onto_first, before_first, after_first}
use Rattle.std.proofs.lemmas.List.Splits.{slice_split_first, slice_split_none}
use Rattle.std.proofs.lemmas.List.Sums.{position_or_len_is, fails_before_first}
use Rattle.std.proofs.lemmas.List.Quantifiers.{position-Some}
use Rattle.std.proofs.lemmas.List.Elements.{All-from_get_or}
use Rattle.std.proofs.lemmas.Option.{none-some}
use Rattle.std.proofs.lemmas.Bool.Decides.{nat_tests}
use Rattle.script_lang.specs.Lines.{lines_of, without_empty_end}

-- there is always a part
first_part : (p : ℕ → Bool) (bytes : List ℕ) → (part : List ℕ) × (more : List (List ℕ)) × (slice_split p bytes ≡ part ∷ more)
first_part p [] = ([], [], refl)
first_part p (byte ∷ bytes) =
    let tail = first_part p bytes in
    elim (p byte) as (λ b. (part : List ℕ) × (more : List (List ℕ)) × (cond b ([] ∷ slice_split p bytes) (onto_first byte (slice_split p bytes)) ≡ part ∷ more)) [
      | true ↦ ([], slice_split p bytes, refl)
      | false ↦ (byte ∷ tail.0, tail.1, rw tail.2 refl)
    ]

keeps_first : (part : List ℕ) (parts : List (List ℕ)) (next : List ℕ) (more : List (List ℕ)) → parts ≡ next ∷ more → without_empty_end (part ∷ parts) ≡ part ∷ without_empty_end parts
keeps_first [] parts next more e = rw e refl
keeps_first (byte ∷ part) parts next more e = rw e refl

pub lines_behind : (bytes : List ℕ) (end : ℕ) → position (λ byte. byte == 10) bytes ≡ Some end → lines_of bytes ≡ take end bytes ∷ lines_of (drop (end + 1) bytes)
unfolding lines_of
lines_behind bytes end found =
    let newline : ℕ → Bool = λ byte. byte == 10 in
    let at = position-Some newline bytes end 0 found in
    let place : position_or_len newline bytes ≡ end = position_or_len_is newline bytes end 0 (omega arith) at.2 (λ _. at.1) in
    let parts = slice_split_first newline bytes 0 (rw place at.0) in
    let next = first_part newline (after_first newline bytes) in
    ap without_empty_end parts ∙ keeps_first (before_first newline bytes) _ next.0 next.1 next.2
    ∙ ap (λ n. take n bytes ∷ without_empty_end (slice_split newline (drop (n + 1) bytes))) place

-- nothing is found exactly where each byte was passed
passed_all : (p : ℕ → Bool) (bytes : List ℕ) → position p bytes ≡ None → length bytes ≤ position_or_len p bytes
passed_all p bytes none = grind (arith, nat_tests, none-some {A = ℕ})

pub only_line : (bytes : List ℕ) → 0 < length bytes → position (λ byte. byte == 10) bytes ≡ None → lines_of bytes ≡ bytes ∷ lines_of []
unfolding lines_of
only_line [] some none = absurd (omega arith)
only_line (byte ∷ bytes) some none =
    let newline : ℕ → Bool = λ x. x == 10 in
    let all = passed_all newline (byte ∷ bytes) none in
    let parts = slice_split_none newline (byte ∷ bytes) (All-from_get_or (λ x. newline x ≡ false) (byte ∷ bytes) 0 (λ i within. fails_before_first newline (byte ∷ bytes) i 0 (omega arith))) in
    ap without_empty_end parts
