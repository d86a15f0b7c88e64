use Rattle.std.proofs.Common.{arith, ap}
use Rattle.shelf.proofs.OpeningLemmas.{kept_new}
use Rattle.shelf.proofs.shelf.Shelf.new.Goals as goal

pub invariant_of-result : goal.invariant_of-result
invariant_of-result g c =
    let is = c.new.ensures in
    record {
      low_limit = c.requires.limit;
      kept =
          kept_new _ _ _ (g.P.F.Folder.contents c.args.folder) _ (g.P.F.Folder.tally c.args.folder) (g.P.F.Folder.tally c.start.new.self) _ _ _ c.new.result
          (ap (λ l. l.list) is)
          (ap (λ l. l.weight) is)
          c.start.ensures.contents
          (omega (arith, c.faults-first_faults.ensures.count, c.start.ensures.tally.count))
          (λ told. rw (ap (λ l. l.base) is) (c.requires.base told));
    }
