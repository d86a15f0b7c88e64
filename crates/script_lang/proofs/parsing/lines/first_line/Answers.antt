use Rattle.std.proofs.Common.{sym, ◌∙◌}
use Rattle.std.proofs.lemmas.Grind.{common_steps}
use Rattle.std.proofs.Common.{arith}
use Rattle.script_lang.proofs.LineLemmas.{lines_behind, only_line}
use Rattle.script_lang.proofs.parsing.lines.first_line.Goals as goal

pub returns-in-Some-clause-lines : goal.returns-in-Some-clause-lines
returns-in-Some-clause-lines c =
    let e = lines_behind c.args.bytes.now c.in-Some.end (sym c.newline_of.ensures ∙ c.in-Some.is) in
    grind (arith, common_steps)

pub returns-in-None-clause-lines : goal.returns-in-None-clause-lines
returns-in-None-clause-lines c = only_line c.args.bytes.now c.requires (sym c.newline_of.ensures ∙ c.in-None.is)
