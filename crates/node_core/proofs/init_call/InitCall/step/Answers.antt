use Rattle.std.proofs.Common.{refl}
use Rattle.step_table.specs.Rows.{migrates}
use Rattle.node_core.proofs.RowLemmas.{goes_on}
use Rattle.node_core.proofs.init_call.InitCall.step.Goals as goal

pub returns-in-Migrate-clause-steps : goal.returns-in-Migrate-clause-steps
returns-in-Migrate-clause-steps g c =
    λ ask.
    rw c.in-Migrate.is (goes_on g.P.C.Codec g.P.T.Transform g.P.F.Folder c.args.origin _ _ _ (migrates refl) (record { list = refl; owner = refl; room = refl; deaths = refl; codec = refl; store = refl }) refl (record {
      entries = c.requires.ready.room;
      room = tt;
      may = λ told. tt;
    }))
