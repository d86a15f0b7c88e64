use Rattle.std.proofs.Common.{arith, refl, ap, length}
use Rattle.hist_journal.specs.Folds.{kind_weight}
use Rattle.shelf.proofs.KeptLemmas.{kept_kinds, untouched}
use Rattle.shelf.proofs.LedgerLemmas.{raises_fit}
use Rattle.shelf.proofs.shelf.Shelf.raise.Goals as goal

pub invariant_of-self : goal.invariant_of-self
unfolding kind_weight
invariant_of-self g c =
    let s = c.args.self.now in
    record { low_limit = s.low_limit; kept = kept_kinds _ _ _ _ _ _ _ _ _ _ s.ledger c.add.new.self _ _ _ _ _ c.add.ensures (untouched _ _ (g.P.F.Folder.tally s.folder)) refl c.requires.lawful refl s.kept }

pub raise-requires-clause-low : goal.raise-requires-clause-low
raise-requires-clause-low g c =
    let fits = raises_fit _ _ _ c.add.ensures.list refl in
    let all = ap (λ j. length j.list) c.journal.ensures in
    omega (arith, c.requires.number, fits, all, c.len-entries.ensures)
