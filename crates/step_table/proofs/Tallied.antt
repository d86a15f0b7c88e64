-- What a call of a told folder makes of the tally.
use Rattle.std.proofs.Common.{◌≡◌, ◌∙◌, inl, inr, ℕ, ◌-◌, ◌^◌, nat_lt, Bool, true, false, ◌&&◌, not, Option, refl, sym, ap, arith}
use Rattle.std.proofs.lemmas.Bool.{and_parts, not-true}
use Rattle.std.proofs.lemmas.Bool.Decides.{nat_tests}
use Rattle.store_traits.specs.Faults.{Rose, one_more}
use Rattle.folder_disk.specs.declared.call.FolderCall.{FolderCall}
use Rattle.folder_disk.specs.Due.{Due, taken_in}
use Rattle.folder_disk.specs.Due as plan
use Rattle.folder_disk.specs.Tally.{Tallies, Tally}

-- a tally once such a call went well, or failed
abbrev pub went_well : FolderCall → Tally → Tally
went_well asked tally = record tally { due = taken_in asked tally.due }

abbrev pub has_failed : FolderCall → Tally → Tally
has_failed asked tally = record tally { count = one_more tally.count; due = taken_in asked tally.due }

-- a count rose that has one more, or stands at its end
one_rises : (count : ℕ) (below : Bool) → nat_lt count (2 ^ 64 - 1) ≡ below → Rose count (one_more count)
one_rises count true is = inl (grind (arith, nat_tests, is))
one_rises count false is = inr (grind (arith, nat_tests, is))

pub well_so : (told : Bool) (asked : FolderCall) (tally : Tally) → (not (plan.fails asked tally.due) && nat_lt tally.count (2 ^ 64)) ≡ true
    → Tallies told asked false tally (went_well asked tally)
well_so told asked tally is =
    let parts = and_parts (not (plan.fails asked tally.due)) (nat_lt tally.count (2 ^ 64)) is in
    let below : nat_lt tally.count (2 ^ 64) ≡ true = parts.1 in
    record {
      counts = record { later = omega arith; cause = tt; kept = refl };
      fits = grind (arith, nat_tests, below);
      most = refl;
      due = λ is_told. record { failed = sym (not-true (plan.fails asked tally.due) parts.0); count = refl; due = refl };
    }

pub failed_so : (told : Bool) (asked : FolderCall) (tally : Tally) → (plan.fails asked tally.due && nat_lt tally.count (2 ^ 64)) ≡ true
    → Tallies told asked true tally (has_failed asked tally)
failed_so told asked tally is =
    let parts = and_parts (plan.fails asked tally.due) (nat_lt tally.count (2 ^ 64)) is in
    let below : nat_lt tally.count (2 ^ 64) ≡ true = parts.1 in
    record {
      counts = record { later = grind (arith, nat_tests, below); cause = one_rises tally.count (nat_lt tally.count (2 ^ 64 - 1)) refl; kept = tt };
      fits = omega arith;
      most = refl;
      due = λ is_told. record { failed = sym parts.0; count = refl; due = refl };
    }

-- of a folder that tells what it does, the tally is one once a call was made
pub one_tally : (asked : FolderCall) (failed : Bool) (old x y : Tally) → Tallies true asked failed old x → Tallies true asked failed old y → x ≡ y
one_tally asked failed old x y a b =
    let one = a.due refl in
    let other = b.due refl in
    ap (λ (count : ℕ). record x { count = count }) (one.count ∙ sym other.count)
    ∙ (ap (λ (most : Option ℕ). record x { count = y.count; most = most }) (a.most ∙ sym b.most) ∙ ap (λ (due : Due). record y { due = due }) (one.due ∙ sym other.due))
