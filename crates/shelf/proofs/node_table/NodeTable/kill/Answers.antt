use Rattle.std.proofs.Common.{sym}
use Rattle.shelf.specs.NodeStates.{killed}
use Rattle.shelf.proofs.NodeStateLemmas.{changed_at, unchanged}
use Rattle.shelf.proofs.node_table.NodeTable.kill.Goals as goal

pub returns-in-Some : goal.returns-in-Some
returns-in-Some c = changed_at c.args.node (killed c.args.at) _ _ _ _ c.self.view_is (sym c.in-Some.ensures) c.index_mut-state.ensures.value

pub returns-in_default : goal.returns-in_default
returns-in_default c = unchanged c.args.node (killed c.args.at) c.args.self.now (sym c.in_default.ensures)
