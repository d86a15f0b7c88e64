-- A word that is the text of a number is parsed as it, and is what is printed of it.
use Rattle.std.proofs.Common.{◌≡◌, ◌∙◌, ◌<◌, ◌^◌, Ok, true, sym, ap, arith}
use Rattle.std.specs.Fmt.{decimal}
use Rattle.std.specs.Str.{bytes_eq}
use Rattle.std.proofs.lemmas.Fmt.{parse-decimal}
use Rattle.std.proofs.lemmas.Slice.Eq.{bytes_eq-Decides}
use Rattle.script_words.proofs.numbers.number_of.Goals as goal
use Rattle.script_words.proofs.numbers.number_of.Goals.{else-is_printed_so-via-then-is_printed_so+then-least-number+else-number-most, else-is_printed_so-via-then-is_printed_so+else-least-number, else-is_printed_so-via-else-is_printed_so}

pub returns-in_default-clause-none : goal.returns-in_default-clause-none
returns-in_default-clause-none c n is =
    let fits : n < 2 ^ 64 = omega (arith, is.high, c.ranges.most.fits) in
    c.in_default.not-Ok n (parse-decimal 64 n _ _ fits fits is.text c.parse.ensures.value.0)

pub returns-else-is_printed_so-clause-none : goal.returns-else-is_printed_so-clause-none
returns-else-is_printed_so-clause-none c n is =
    let fits : n < 2 ^ 64 = omega (arith, is.high, c.ranges.most.fits) in
    let parsed : c.parse.result ≡ Ok n = parse-decimal 64 n _ _ fits fits is.text c.parse.ensures.value.0 in
    let same : c.in-Ok.number ≡ n = cc (c.in-Ok.is, parsed) in
    let printed : bytes_eq c.format.result.now c.args.word.now ≡ true = (bytes_eq-Decides c.format.result.now c.args.word.now).1 (c.format.ensures.text ∙ ap decimal same ∙ sym is.text) in
    elim c.else-is_printed_so.branch [
      | else-is_printed_so-via-then-is_printed_so+then-least-number+else-number-most w ↦ omega (arith, is.high)
      | else-is_printed_so-via-then-is_printed_so+else-least-number w ↦ omega (arith, is.low)
      | else-is_printed_so-via-else-is_printed_so w ↦ cc (printed, c.eq-is_printed_so.ensures, w.if-is_printed_so.false)
    ]
