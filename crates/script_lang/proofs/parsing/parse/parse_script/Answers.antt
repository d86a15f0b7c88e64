use Rattle.std.proofs.Common.{sym, subst, ◌∙◌}
use Rattle.script_lang.specs.Draft.{HasHomes}
use Rattle.script_lang.proofs.GrowthLemmas.{draft_has_homes}
use Rattle.script_lang.proofs.KeepsLemmas.{script_keeps}
use Rattle.script_lang.proofs.ReadSoFar.{all_read, read_more}
use Rattle.script_lang.proofs.TestLemmas.{nothing_left}
use Rattle.script_lang.proofs.parsing.parse.parse_script.Goals as goal

pub loop-rest-preserved : goal.loop-rest-preserved
loop-rest-preserved c =
    read_more c.args.mode c.args.bytes.now c.loop-rest.number c.loop-rest.rest.now c.loop-rest.draft c.loop-rest.invariant
    c.first_line.result.0.now c.first_line.result.1.now c.in_ok-draft.draft c.first_line.ensures.lines c.first_line.ensures.shorter c.in_ok-draft.ensures.ok

pub returns-clause-ok : goal.returns-clause-ok
returns-clause-ok c =
    all_read c.args.mode c.args.bytes.now c.loop-rest.number c.loop-rest.rest.now c.loop-rest.draft c.loop-rest.invariant
    (nothing_left c.loop-rest.rest.now (sym c.is_empty.ensures ∙ c.loop-rest-test.false)) c.in-Ok.script c.in-Ok.ensures

pub returns-clause-keeps : goal.returns-clause-keeps
returns-clause-keeps c = script_keeps c.args.mode c.args.bytes.now c.in-Ok.script (returns-clause-ok c)

pub next_draft-requires : goal.next_draft-requires
next_draft-requires c = subst HasHomes (sym c.loop-rest.invariant.drafted) (draft_has_homes c.args.mode c.loop-rest.invariant.said)
