-- What does not hold where its test is false.
use Rattle.std.proofs.Common.{◌≡◌, ◌==◌, ℕ, List, [], ◌∷◌, length, arith, Bool, true, false, not, refl, sym, ◌∙◌}
use Rattle.std.specs.Bool.{Decides}
use Rattle.std.specs.Str.{bytes_eq}
use Rattle.std.proofs.lemmas.Bool.Decides.{nat_tests}
use Rattle.std.proofs.lemmas.Slice.Eq.{bytes_eq-Decides}
use Rattle.std.specs.Prelude.{IsTrue}
use Rattle.std.proofs.lemmas.Bool.{false≢true}

pub refuted : (test : Bool) (P : Type 0) → (P → IsTrue test) → test ≡ false → ¬ P
refuted test P tested is_false = λ holds. false≢true (sym is_false ∙ tested holds)

same_if : {P : Type 0} (same : Bool) → Decides same P → not same ≡ false → P
same_if true decides is_false = decides.0 refl
same_if false decides is_false = absurd (false≢true (sym is_false))

-- texts that do not differ are the same
pub same_text : (word other : List ℕ) (differs : Bool) → differs ≡ not (bytes_eq word other) → differs ≡ false → word ≡ other
same_text word other differs tested is_false = same_if (bytes_eq word other) (bytes_eq-Decides word other) (sym tested ∙ is_false)

no_items : {X : Type 0} (xs : List X) → length xs ≡ 0 → xs ≡ []
no_items [] none = refl
no_items (x ∷ xs) none = absurd (omega arith)

-- a list of which the test says that it is empty
pub nothing_left : {X : Type 0} (xs : List X) → (length xs == 0) ≡ true → xs ≡ []
nothing_left xs is_empty = no_items xs (grind (arith, nat_tests))
