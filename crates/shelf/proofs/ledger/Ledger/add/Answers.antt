use Rattle.std.proofs.Common.{arith, sym, ap, ◌∙◌, ◌+◌}
use Rattle.shelf.proofs.DeathLemmas.{unmarked_lives}
use Rattle.shelf.proofs.LedgerLemmas.{dead_other, editions, editions_fit, inner_kills_nothing, inner_marks_nothing, last_other, quiet_own, ready_other}
use Rattle.shelf.proofs.ledger.Ledger.add.Goals as goal

pub overflow_add-self : goal.overflow_add-self
overflow_add-self g c =
    let fits = editions_fit _ _ _ c.push.ensures.list _ _ c.args.self.now.counts_editions c.editions_of-editions.ensures in omega (arith, fits, c.len-entries.ensures)

pub invariant_of-self : goal.invariant_of-self
invariant_of-self g c =
    let l = c.args.self.now in
    let is = c.push.ensures.list in
    record {
      has_room = omega (arith, l.has_room, c.push.ensures.room);
      weight_fits = omega (arith, c.push.ensures.weight);
      counts_editions = ap (λ n. n + c.editions_of-editions.result) l.counts_editions ∙ sym (editions _ _ _ is _ c.editions_of-editions.ensures);
      quiet = quiet_own _ _ _ is _ l.quiet c.requires.owner;
      ready = ready_other _ _ _ is _ l.ready (inner_marks_nothing _ c.requires.kind);
      dead = dead_other _ _ _ is _ l.dead (inner_kills_nothing _ c.requires.kind);
      last = last_other _ _ _ is _ l.last (λ node. unmarked_lives node _ (inner_kills_nothing _ c.requires.kind node));
    }
