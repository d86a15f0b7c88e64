use Rattle.std.proofs.Common.{None}
use Rattle.std.proofs.Math.Logic.{∥∥₁_map}
use Rattle.shelf.specs.ShelfSeen.{shelf_seen}
use Rattle.shelf.proofs.MeanwhileLemmas.{lives}
use Rattle.node_core.proofs.DyingFits.{new_death_fits, restart_fits}
use Rattle.node_core.proofs.NewCalls.{unraised}
use Rattle.node_core.proofs.RestartTurns.{restart_raises, restart_steps}
use Rattle.node_core.proofs.restarting.restart.Goals as goal

pub restart-requires-clause-ended : goal.restart-requires-clause-ended
restart-requires-clause-ended g c = unraised _ _ c.requires.fresh

pub restart-requires-clause-dies : goal.restart-requires-clause-dies
restart-requires-clause-dies g c = λ told alive. (new_death_fits _ _ _ _ c.requires.fresh c.requires.numbers (lives _ None _ alive), tt)

pub restart-requires-clause-lawful : goal.restart-requires-clause-lawful
restart-requires-clause-lawful g c = λ told alive dead. (restart_fits _ _ _ _ c.requires.fresh c.requires.numbers (lives _ None _ alive) _ dead, tt)

pub returns-clause-steps : goal.returns-clause-steps
returns-clause-steps g c = restart_steps g.P.C.Codec g.P.T.Transform g.P.F.Folder _ _ (shelf_seen c.args.shelf.now) (shelf_seen c.restart.new.self) c.restart.ensures.folder c.restart.result c.restart.ensures.row

pub returns-clause-kept : goal.returns-clause-kept
returns-clause-kept g c = λ told. ∥∥₁_map c.restart.new.self.kept (λ kept. kept.main told)

pub returns-clause-quiet : goal.returns-clause-quiet
returns-clause-quiet g c = c.restart.new.self.ledger.quiet

pub returns-clause-raises : goal.returns-clause-raises
returns-clause-raises g c = restart_raises _ _ (shelf_seen c.args.shelf.now) (shelf_seen c.restart.new.self) c.restart.result c.restart.ensures.row
