use Rattle.shelf.proofs.OpeningLemmas.{kept_more_nodes}
use Rattle.shelf.proofs.shelf.Shelf.add_node.Goals as goal

pub invariant_of-self : goal.invariant_of-self
invariant_of-self g c =
    let s = c.args.self.now in
    let same = c.add_node.ensures.history in
    record { low_limit = s.low_limit; kept = kept_more_nodes _ _ _ _ (g.P.F.Folder.tally s.folder) _ _ _ s.ledger c.add_node.new.self same.base same.bounds same.list same.weight s.kept }
