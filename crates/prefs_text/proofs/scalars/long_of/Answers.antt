use Rattle.std.proofs.Common.{◌≡◌, Ok, true, arith}
use Rattle.std.specs.Int.{w64}
use Rattle.std.specs.Str.{bytes_eq}
use Rattle.std.proofs.lemmas.Fmt.{parse-signed_decimal}
use Rattle.prefs_text.proofs.Decimals.{prints_itself}
use Rattle.prefs_text.proofs.scalars.long_of.Goals as goal

pub returns-in_default-clause-none : goal.returns-in_default-clause-none
returns-in_default-clause-none c z fits e =
    c.in_default.not-Ok z (parse-signed_decimal w64 z _ _ fits (omega (arith, fits.sfits)) e c.parse.ensures.value.0)

pub returns-else-eq-clause-none : goal.returns-else-eq-clause-none
returns-else-eq-clause-none c z fits e =
    let parsed : c.parse.result ≡ Ok z = parse-signed_decimal w64 z _ _ fits (omega (arith, fits.sfits)) e c.parse.ensures.value.0 in
    let same : bytes_eq c.format.result.now c.args.word.now ≡ true = prints_itself w64 c.parse.result c.in-Ok.number z _ _ fits c.in-Ok.is parsed c.format.ensures.text e in
    cc (same, c.eq.ensures)
