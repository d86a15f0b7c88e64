use Rattle.std.proofs.Common.{ap, ◌∙◌}
use Rattle.shelf.specs.NodeStates.{dead_by, died_by}
use Rattle.shelf.proofs.DeathLemmas.{death_told, life_told}
use Rattle.shelf.proofs.ledger.Ledger.death_since.Goals as goal

pub returns-clause-died : goal.returns-clause-died
returns-clause-died g c =
    let l = c.args.self.now in
    let node = c.args.node in
    let is = c.state_of.ensures in
    death_told node c.args.since l.journal.list (dead_by c.state_of.result) (died_by c.state_of.result) (ap dead_by is ∙ l.dead node) (ap died_by is ∙ l.last node) c.death_of.result c.death_of.ensures

pub returns-clause-lives : goal.returns-clause-lives
returns-clause-lives g c =
    let l = c.args.self.now in
    let node = c.args.node in
    let is = c.state_of.ensures in
    life_told node c.args.since l.journal.list (dead_by c.state_of.result) (died_by c.state_of.result) (ap dead_by is ∙ l.dead node) (ap died_by is ∙ l.last node) c.death_of.result c.death_of.ensures
