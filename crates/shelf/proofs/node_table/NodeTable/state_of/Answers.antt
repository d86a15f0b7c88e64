use Rattle.std.proofs.Common.{◌∙◌, rules, tests, ap}
use Rattle.std.specs.List.{find}
use Rattle.std.proofs.lemmas.Iterator.{YieldsList-from_slice}
use Rattle.std.proofs.lemmas.Iterator.Search.{find_from_yields_List}
use Rattle.hist_journal.specs.Kinds.{is_node}
use Rattle.shelf.specs.declared.node_table.NodeState.{NodeState}
use Rattle.shelf.proofs.node_table.NodeTable.state_of.Goals as goal

pub returns : goal.returns
returns c =
    let named = λ (state : NodeState). is_node state.id c.args.node in
    c.copied.ensures
    ∙ (find_from_yields_List named _ _ c.find.result c.find.ensures.ran (YieldsList-from_slice c.deref.result.now cc) (λ x b q k. search (rules, tests))
    ∙ ap (find named) cc)
