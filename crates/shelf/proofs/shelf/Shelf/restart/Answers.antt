use Rattle.std.proofs.Common.{◌≡◌, true, [], ◌∷◌, sym, subst}
use Rattle.hist_journal.specs.declared.seen.KindSeen.TheVariants.{Restart}
use Rattle.hist_journal.specs.Nodes.{is_dead}
use Rattle.shelf.specs.ShelfSeen.{ShelfSeen}
use Rattle.shelf.specs.ShelfTurns.{May}
use Rattle.shelf.proofs.KeptLemmas.{kept_revived, untouched}
use Rattle.shelf.proofs.shelf.Shelf.restart.Goals as goal

pub invariant_of-self : goal.invariant_of-self
invariant_of-self g c =
    let s = c.begin.new.self in
    let alive = c.in_default.ensures in
    record {
      low_limit = s.low_limit;
      kept = kept_revived _ _ _ _ _ _ _ _ _ _ s.ledger c.restart.new.self _ _ _ _ _ c.restart.ensures (untouched _ _ (g.P.F.Folder.tally s.folder))
          (λ told. subst (λ (seen : ShelfSeen _ _ _ _). is_dead c.args.node seen.list ≡ true → May g.P.T.Transform.after c.args.call (Restart c.args.node ∷ []) seen) (sym alive.same) (c.requires.lawful told alive.lives)) s.kept;
    }
