use Rattle.std.proofs.Common.{refl, sym, ◌∙◌}
use Rattle.hist_journal.specs.Folds.{kind_weight}
use Rattle.shelf.proofs.KeptLemmas.{kept_kinds, untouched}
use Rattle.shelf.proofs.LedgerLemmas.{has_node-ids}
use Rattle.shelf.proofs.shelf.Shelf.finish_init.Goals as goal

pub finish_init-requires-clause-node : goal.finish_init-requires-clause-node
finish_init-requires-clause-node g c = sym (has_node-ids c.args.call.node c.args.self.now.ledger.nodes) ∙ c.requires.node

pub invariant_of-self : goal.invariant_of-self
unfolding kind_weight
invariant_of-self g c =
    let s = c.args.self.now in
    record { low_limit = s.low_limit; kept = kept_kinds _ _ _ _ _ _ _ _ _ _ s.ledger c.finish_init.new.self _ _ _ _ _ c.finish_init.ensures (untouched _ _ (g.P.F.Folder.tally s.folder)) refl c.requires.lawful refl s.kept }
