use Rattle.node_core.proofs.ReadyLemmas.{ready_now}
use Rattle.node_core.proofs.laws.calls_stay_ready.Goals as goal

pub returns : goal.returns
returns g c = ready_now g.P.C.Codec g.P.T.Transform g.P.F.Folder
