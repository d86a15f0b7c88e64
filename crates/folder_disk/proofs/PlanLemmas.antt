-- What one call does to the number of planned failures that are still to come.
use Rattle.std.proofs.Common.{◌≡◌, ◌≤◌, ◌<◌, ◌+◌, ◌-◌, ◌^◌, ◌==◌, ◌&&◌, ◌||◌, true, false, min, Bool, List, [], ◌∷◌, ℕ, refl, arith, nat_lt, cond, length, ◌⊎◌, inl, inr}
use Rattle.std.proofs.lemmas.Bool.Decides.{nat_tests}
use Rattle.folder_disk.specs.declared.call.FolderCall.{FolderCall}
use Rattle.folder_disk.specs.declared.call.FolderCall.TheVariants.{ReadMain, Create, Append, SyncScratch, Rename, SyncFolder}
use Rattle.folder_disk.specs.declared.call.Planned.{Planned}
use Rattle.folder_disk.specs.declared.call.CallCounts.{CallCounts}
use Rattle.folder_disk.specs.Due.{count_of, counted, kind_of, is_planned}
use Rattle.folder_disk.specs.Planned.{left_to_strike, is_left}

-- a count does not fall
pub count_of-counted : (call other : FolderCall) (made : CallCounts) → count_of made call ≤ 2 ^ 64 - 1 → count_of made other ≤ count_of (counted call made) other
count_of-counted call other made fits = grind arith

pub counted_own : (call : FolderCall) (made : CallCounts) → count_of (counted call made) call ≡ min (count_of made call + 1) (2 ^ 64 - 1)
counted_own ReadMain made = refl
counted_own Create made = refl
counted_own Append made = refl
counted_own SyncScratch made = refl
counted_own Rename made = refl
counted_own SyncFolder made = refl

pub same_kind : (a b : FolderCall) → kind_of a ≡ kind_of b → a ≡ b
same_kind a b e = grind arith

left_less : (a b n : ℕ) → a ≤ b → cond (nat_lt b n) 1 0 ≤ cond (nat_lt a n) 1 0
left_less a b n h = grind (arith, nat_tests)

pub left_when_passed : (call : FolderCall) (made : CallCounts) (planned : List Planned) → count_of made call ≤ 2 ^ 64 - 1 → left_to_strike (counted call made) planned ≤ left_to_strike made planned
unfolding left_to_strike
left_when_passed call made [] fits = omega arith
left_when_passed call made (p ∷ planned) fits =
    let rest = left_when_passed call made planned fits in
    let here = left_less _ _ p.number (count_of-counted call p.call made fits) in omega arith

struck_step : (kind call : FolderCall) (made : CallCounts) (n : ℕ) → ((kind_of kind == kind_of call) && (n == count_of made call + 1)) ≡ true → count_of made call + 1 < 2 ^ 64 → cond (nat_lt (count_of (counted call made) kind) n) 1 0 + 1 ≤ cond (nat_lt (count_of made kind) n) 1 0
struck_step kind call made n struck fits =
    let kinds : kind_of kind ≡ kind_of call = grind (arith, nat_tests) in
    let number : n ≡ count_of made call + 1 = grind (arith, nat_tests) in
    let own = counted_own call made in
    rw (same_kind kind call kinds) (rw own (grind (arith, nat_tests)))

here_struck : (call : FolderCall) (made : CallCounts) (p : Planned) → ((kind_of p.call == kind_of call) && (p.number == count_of made call + 1)) ≡ true → count_of made call + 1 < 2 ^ 64 → is_left (counted call made) p + 1 ≤ is_left made p
here_struck call made p struck fits = struck_step p.call call made p.number struck fits

or_cases : (a b : Bool) → (a || b) ≡ true → (a ≡ true) ⊎ (b ≡ true)
or_cases true b h = inl refl
or_cases false b h = inr h

pub left_when_struck : (call : FolderCall) (made : CallCounts) (planned : List Planned) → is_planned call made planned ≡ true → count_of made call + 1 < 2 ^ 64 → left_to_strike (counted call made) planned + 1 ≤ left_to_strike made planned
unfolding left_to_strike
left_when_struck call made [] struck fits = cc
left_when_struck call made (p ∷ planned) struck fits =
    let fits_now : count_of made call ≤ 2 ^ 64 - 1 = omega arith in
    elim (or_cases _ _ struck) [
      | inl here ↦ (let e = here_struck call made p here fits in
          let rest = left_when_passed call made planned fits_now in omega arith)
      | inr later ↦ (let e = left_when_struck call made planned later fits in
          let here = left_less _ _ p.number (count_of-counted call p.call made fits_now) in omega arith)
    ]

pub left_at_most : (made : CallCounts) (planned : List Planned) → left_to_strike made planned ≤ length planned
unfolding left_to_strike
left_at_most made [] = omega arith
left_at_most made (p ∷ planned) = let rest = left_at_most made planned in grind (arith, nat_tests)
