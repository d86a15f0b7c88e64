use Rattle.node_core.proofs.NewCalls.{new_is_ready}
use Rattle.node_core.proofs.laws.new_calls_are_ready.Goals as goal

pub returns : goal.returns
returns g c = new_is_ready g.P.C.Codec g.P.T.Transform g.P.F.Folder
