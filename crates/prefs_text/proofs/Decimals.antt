-- A word that is a number's decimal text is read as that number, which prints as the word.
use Rattle.std.proofs.Common.{◌≡◌, ◌≢◌, ◌∙◌, ℤ, List, ℕ, Result, Ok, Err, true, sym, ap, subst, arith}
use Rattle.std.specs.Fmt.{signed_decimal}
use Rattle.std.specs.Int.{Width, w32, w64, cast_signed, cast_unsigned}
use Rattle.std.specs.Int.RustNames.{FitsSigned}
use Rattle.std.specs.Option.{IfNone}
use Rattle.std.specs.Result.{OkIff, result_ok}
use Rattle.std.specs.Str.{bytes_eq}
use Rattle.std.proofs.lemmas.Fmt.{signed_decimal_injective}
use Rattle.std.proofs.lemmas.Int.{to_z-of_z}
use Rattle.std.proofs.lemmas.Slice.Eq.{bytes_eq-Decides}

pub prints_itself : {E : Type 0} (w : Width) (read : Result ℤ E) (number z : ℤ) (word printed : List ℕ) → FitsSigned w z → read ≡ Ok number → read ≡ Ok z
    → printed ≡ signed_decimal (cast_signed w (cast_unsigned w number)) → word ≡ signed_decimal z → bytes_eq printed word ≡ true
prints_itself w read number z word printed fits as_number as_z prints is =
    let same : number ≡ z = cc in
    let text = prints ∙ ap (λ n. signed_decimal (cast_signed w (cast_unsigned w n))) same ∙ ap signed_decimal (to_z-of_z w z fits) in
    (bytes_eq-Decides printed word).1 (text ∙ sym is)

-- a word is the text of one number of 64 bits alone, so of none of 32 bits where that one has more
pub refused_by_range : {E : Type 0} (narrowed : Result ℤ E) (number : ℤ) (word : List ℕ) → FitsSigned w64 number → word ≡ signed_decimal number
    → OkIff narrowed (FitsSigned w32 number) number → IfNone (result_ok narrowed) ((z : ℤ) → FitsSigned w32 z → word ≢ signed_decimal z)
refused_by_range (Ok z) number word fits is range = tt
refused_by_range (Err e) number word fits is range = λ z narrow also.
    let same : number ≡ z = signed_decimal_injective number z (omega (arith, fits.sfits)) (omega (arith, narrow.sfits)) (sym is ∙ also) in
    range (subst (λ n. FitsSigned w32 n) (sym same) narrow)
