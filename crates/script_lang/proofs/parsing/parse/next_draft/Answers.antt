use Rattle.script_lang.proofs.GrowthLemmas.{says_has_place}
use Rattle.script_lang.proofs.parsing.parse.next_draft.Goals as goal

pub with-requires : goal.with-requires
with-requires c = says_has_place c.args.draft c.args.number c.args.line.now c.in-Ok.said c.in-Ok.ensures
