use Rattle.std.proofs.Common.{◌∙◌, arith}
use Rattle.script_lang.proofs.NameRows.{node_taken, node_too_many, node_barred, node_said}
use Rattle.script_lang.proofs.TestLemmas.{refuted}
use Rattle.script_lang.proofs.WordLemmas.{one_text}
use Rattle.script_lang.proofs.parsing.name_rows.read_node.Goals as goal

pub returns-then-is_taken : goal.returns-then-is_taken
returns-then-is_taken c =
    rw (one_text c.args.behind.now c.in-len1.len_at_least c.in-len1.len_below)
    (node_taken c.args.draft.now _ (c.is_name.ensures.0 c.if-not-is_name.false) (c.is_taken.ensures.0 c.if-is_taken.true))

pub returns-then-len-ge-MAX_NODES : goal.returns-then-len-ge-MAX_NODES
returns-then-len-ge-MAX_NODES c =
    rw (one_text c.args.behind.now c.in-len1.len_at_least c.in-len1.len_below)
    (node_too_many c.args.draft.now _ (c.is_name.ensures.0 c.if-not-is_name.false) (refuted _ _ c.is_taken.ensures.1 c.if-is_taken.false) (omega arith))

pub returns-then-follows_other : goal.returns-then-follows_other
returns-then-follows_other c =
    rw (one_text c.args.behind.now c.in-len1.len_at_least c.in-len1.len_below)
    (node_barred c.args.draft.now _ (c.is_name.ensures.0 c.if-not-is_name.false) (refuted _ _ c.is_taken.ensures.1 c.if-is_taken.false) (λ many. omega arith) (c.follows_other.ensures.0 c.if-follows_other.true))

pub returns : goal.returns
returns c =
    let named = c.new.ensures ∙ c.in_ok-text.ensures.ok in
    rw (one_text c.args.behind.now c.in-len1.len_at_least c.in-len1.len_below, named)
    (node_said c.args.draft.now _ (c.is_name.ensures.0 c.if-not-is_name.false) (refuted _ _ c.is_taken.ensures.1 c.if-is_taken.false) (λ many. omega arith) (refuted _ _ c.follows_other.ensures.1 c.if-follows_other.false))
