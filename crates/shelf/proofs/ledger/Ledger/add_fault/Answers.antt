use Rattle.std.proofs.Common.{arith, sym, refl, ◌∙◌}
use Rattle.shelf.proofs.Bools.{never}
use Rattle.shelf.proofs.LedgerLemmas.{freed_room_other, other_edition, fault_ends, quiet_ended, quiet_other, dead_other, last_other, ready_other}
use Rattle.shelf.proofs.ledger.Ledger.add_fault.Goals as goal

pub invariant_of-self : goal.invariant_of-self
invariant_of-self g c =
    let l = c.args.self.now in
    let is = c.push.ensures.list in
    let own = c.is_owner-is_owner.ensures.0 c.if-is_owner.true in
    record {
      has_room = omega (arith, c.requires, c.push.ensures.room);
      weight_fits = omega (arith, c.push.ensures.weight);
      counts_editions = l.counts_editions ∙ sym (other_edition _ _ _ is refl);
      quiet = λ call open_now. c.release.ensures ∙ quiet_ended _ _ _ is _ l.quiet own refl (fault_ends g.row.V.Denot g.row.T.Denot c.args.call c.args.count) call open_now;
      ready = ready_other _ _ _ is _ l.ready (λ node. refl);
      dead = dead_other _ _ _ is _ l.dead (λ node. refl);
      last = last_other _ _ _ is _ l.last (λ node. refl);
    }

pub invariant_of-self-else-is_owner : goal.invariant_of-self-else-is_owner
invariant_of-self-else-is_owner g c =
    let l = c.args.self.now in
    let is = c.push.ensures.list in
    let room = freed_room_other c.args.call l.lock l.reserved (λ is. never (sym c.if-is_owner.false ∙ c.is_owner-is_owner.ensures.1 is)) in
    record {
      has_room = omega (arith, c.requires, c.push.ensures.room, room);
      weight_fits = omega (arith, c.push.ensures.weight);
      counts_editions = l.counts_editions ∙ sym (other_edition _ _ _ is refl);
      quiet = quiet_other _ _ _ is _ l.quiet refl;
      ready = ready_other _ _ _ is _ l.ready (λ node. refl);
      dead = dead_other _ _ _ is _ l.dead (λ node. refl);
      last = last_other _ _ _ is _ l.last (λ node. refl);
    }
