-- The word is the text of one number alone, and `try_from` refuses it where it does not fit.
use Rattle.std.specs.Int.{w64}
use Rattle.std.proofs.lemmas.Int.{to_z-of_z}
use Rattle.prefs_text.proofs.Decimals.{refused_by_range}
use Rattle.prefs_text.proofs.scalars.int_of.Goals as goal

pub returns-clause-none : goal.returns-clause-none
returns-clause-none c =
    let number = c.in_ok-long_of.field-0 in
    let range = rw (to_z-of_z w64 number c.in_ok-long_of.ensures.fits) at c.try_from.ensures in
    rw c.ok.ensures.value (refused_by_range c.try_from.result number c.args.word.now c.in_ok-long_of.ensures.fits c.in_ok-long_of.ensures.some range)
