-- Tests of a value that a file may not hold, and of what a transform makes.
use Rattle.std.proofs.Common.{◌≡◌, ℕ, refl, sym, ap}
use Rattle.store_traits.specs.declared.applied.Applied.{Applied}
use Rattle.store_traits.specs.declared.applied.Applied.TheVariants.{Changed, Refused}
use Rattle.hist_journal.specs.declared.seen.BaseSeen.{BaseSeen}
use Rattle.hist_journal.specs.declared.seen.BaseSeen.TheVariants.{Held, Corrupt, TooLong}
use Rattle.shelf.specs.Decided.{Decided}
use Rattle.shelf.proofs.Tests.{like, none, same_number, sure}

module _ {V : Type 0} where
  pub not_corrupt : (v : V) → ◌≡◌ {A = BaseSeen V} Corrupt (Held v) → ⊥
  not_corrupt v is = cc

  pub not_long : (len : ℕ) (v : V) → ◌≡◌ {A = BaseSeen V} (TooLong len) (Held v) → ⊥
  not_long len v is = cc

  pub long_not_corrupt : (len : ℕ) → ◌≡◌ {A = BaseSeen V} (TooLong len) Corrupt → ⊥
  long_not_corrupt len is = cc

  pub one_held : (a b : V) → ◌≡◌ {A = BaseSeen V} (Held a) (Held b) → a ≡ b
  one_held a b is = cc

  pub one_length : (m n : ℕ) → ◌≡◌ {A = BaseSeen V} (TooLong m) (TooLong n) → m ≡ n
  one_length m n is = cc

  pub not_refused : (v : V) (code : ℕ) → ◌≡◌ {A = Applied V} (Changed v) (Refused code) → ⊥
  not_refused v code is = cc

  pub one_code : (m n : ℕ) → ◌≡◌ {A = Applied V} (Refused m) (Refused n) → m ≡ n
  one_code m n is = cc

  pub one_made : (a b : V) → ◌≡◌ {A = Applied V} (Changed a) (Changed b) → a ≡ b
  one_made a b is = cc

  abbrev pub refuses : (made : Applied V) (code : ℕ) → Decided (made ≡ Refused code)
  refuses (Refused other) code = like (λ is. ap Refused is) (one_code other code) (same_number other code)
  refuses (Changed v) code = none (not_refused v code)

  module _ (same : (a b : V) → Decided (a ≡ b)) where
    abbrev pub same_base : (a b : BaseSeen V) → Decided (a ≡ b)
    same_base (Held a) (Held b) = like (λ is. ap Held is) (one_held a b) (same a b)
    same_base Corrupt Corrupt = sure refl
    same_base (TooLong m) (TooLong n) = like (λ is. ap TooLong is) (one_length m n) (same_number m n)
    same_base Corrupt (Held b) = none (not_corrupt b)
    same_base (Held a) Corrupt = none (λ is. not_corrupt a (sym is))
    same_base (TooLong m) (Held b) = none (not_long m b)
    same_base (Held a) (TooLong n) = none (λ is. not_long n a (sym is))
    same_base (TooLong m) Corrupt = none (long_not_corrupt m)
    same_base Corrupt (TooLong n) = none (λ is. long_not_corrupt n (sym is))

  -- there is a value, of which this holds
  pub record HoldsSo (value : BaseSeen V) (Holds : V → Type 0) : Type 0 where
    pub old : V
    pub held : value ≡ Held old
    pub holds : Holds old

  -- another value is made, of which this holds
  pub record MakesSo (made : Applied V) (Holds : V → Type 0) : Type 0 where
    pub new : V
    pub makes : made ≡ Changed new
    pub holds : Holds new

  module _ (Holds : V → Type 0) (one : (v : V) → Decided (Holds v)) where
    pub held_so : (v : V) → HoldsSo (Held v) Holds → Holds v
    held_so v it = let is : v ≡ it.old = one_held v it.old it.held in rw is it.holds

    pub made_so : (v : V) → MakesSo (Changed v) Holds → Holds v
    made_so v it = let is : v ≡ it.new = one_made v it.new it.makes in rw is it.holds

    abbrev pub holds_so : (value : BaseSeen V) → Decided (HoldsSo value Holds)
    holds_so (Held v) = like (λ it. record { old = v; held = refl; holds = it }) (held_so v) (one v)
    holds_so Corrupt = none (λ it. not_corrupt it.old it.held)
    holds_so (TooLong len) = none (λ it. not_long len it.old it.held)

    abbrev pub makes_so : (made : Applied V) → Decided (MakesSo made Holds)
    makes_so (Changed v) = like (λ it. record { new = v; makes = refl; holds = it }) (made_so v) (one v)
    makes_so (Refused code) = none (λ it. not_refused it.new code (sym it.makes))
