use Rattle.std.proofs.Common.{ap}
use Rattle.std.proofs.lemmas.Result.{err_from_is_err_and}
use Rattle.node_core.proofs.ReadLemmas.{gives_value, has_no_owner}
use Rattle.node_core.proofs.RoomLemmas.{adds_spares, frees_spares, then_spares}
use Rattle.step_table.specs.Calls.{Read}
use Rattle.node_core.proofs.read_call.stepping.read_and_free.Goals as goal

pub returns-clause-ends : goal.returns-clause-ends
returns-clause-ends g c = gives_value g.P.C.Codec g.P.T.Transform g.P.F.Folder c.args.origin c.in_ok-given.given _ _ _ c.in_ok-given.ensures.ok c.free.ensures.turn c.free.ensures.folder

pub returns-clause-lacks_memory : goal.returns-clause-lacks_memory
returns-clause-lacks_memory g c = has_no_owner g.P.C.Codec g.P.T.Transform g.P.F.Folder c.args.origin c.in_ok-given.given _ _ _ c.in_ok-given.ensures.ok c.free.ensures.turn c.free.ensures.folder

pub returns-in_err-given-clause-ends : goal.returns-in_err-given-clause-ends
returns-in_err-given-clause-ends g c =
    λ purpose serves.
    let is = err_from_is_err_and c.from_residual.result c.from_residual.ensures.1 in
    rw (is.1, is.2) (c.in_err-given.ensures.err purpose Read)

pub returns-clause-spares : goal.returns-clause-spares
returns-clause-spares g c =
    let read = c.in_ok-given.ensures.ok in
    then_spares g.P.C.Codec g.P.T.Transform g.P.F.Folder c.args.origin read.same.owner
    (adds_spares g.P.C.Codec g.P.T.Transform g.P.F.Folder c.args.origin read.same read.room)
    (frees_spares g.P.C.Codec g.P.T.Transform g.P.F.Folder c.args.origin c.free.ensures.turn (ap g.P.F.Folder.room c.free.ensures.folder))
