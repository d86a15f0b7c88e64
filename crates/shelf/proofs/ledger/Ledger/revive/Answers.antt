use Rattle.std.proofs.Common.{arith, sym, refl, ap, ◌∙◌, ◌≡◌, false, true, length, length-append}
use Rattle.shelf.specs.NodeStates.{dead_by, death_place, died_by, has_dead, has_ready, ids, living, ready_by, revived}
use Rattle.shelf.proofs.LedgerLemmas.{dead_marked, last_other, other_edition, pending_other, quiet_other, ready_other, restart_ends_nothing}
use Rattle.shelf.proofs.NodeStateLemmas.{dead_is_there, ids-changed, known-changed, known-kept, known_there, living-revived}
use Rattle.shelf.proofs.ledger.Ledger.revive.Goals as goal

pub invariant_of-self-2 : goal.invariant_of-self-2
invariant_of-self-2 g c =
    let l = c.args.self.now in
    let same = c.reserve_past.ensures.same in
    let is = rw same.list at c.push.ensures.list in
    let node = c.args.node in
    let now = c.revive.ensures in
    let was : has_dead node l.nodes ≡ true = sym c.is_dead.ensures ∙ c.if-not-is_dead.false in
    let lives = known-changed dead_by node revived (λ s. refl) l.nodes false (known_there dead_by revived false (λ s. refl) node l.nodes (dead_is_there node l.nodes was)) in
    record {
      has_room = omega (arith, c.in_ok-reserve_past.ensures.ok, c.living.ensures.living, c.push.ensures.room, ap living now ∙ living-revived node l.nodes was);
      weight_fits = omega (arith, c.push.ensures.weight);
      counts_editions = l.counts_editions ∙ sym (other_edition _ _ _ is refl);
      quiet = quiet_other _ _ _ is _ l.quiet refl;
      ready = λ n. ap (has_ready n) now ∙ (known-kept ready_by node revived (λ s. refl) l.nodes (λ s. refl) n ∙ ready_other _ _ _ is _ l.ready (λ x. refl) n);
      dead = dead_marked _ _ _ is node l.nodes _ false (λ n. refl) l.dead (λ n. ap (has_dead n) now ∙ lives n);
      last = λ n. ap (death_place n) now ∙ (known-kept died_by node revived (λ s. refl) l.nodes (λ s. refl) n ∙ last_other _ _ _ is _ l.last (λ x. refl) n);
    }

pub returns-clause-pending : goal.returns-clause-pending
returns-clause-pending g c = pending_other _ _ _ (rw c.reserve_past.ensures.same.list at c.push.ensures.list) refl (λ call. restart_ends_nothing g.row.V.Denot g.row.T.Denot call c.args.call c.args.node)

pub returns-clause-row : goal.returns-clause-row
returns-clause-row g c =
    let l = c.args.self.now in
    let node = c.args.node in
    let same = c.reserve_past.ensures.same in
    let was : has_dead node l.nodes ≡ true = sym c.is_dead.ensures ∙ c.if-not-is_dead.false in (
      record {
        base = c.push.ensures.base ∙ same.base;
        bounds = c.push.ensures.bounds ∙ same.bounds;
        nodes = ap ids c.revive.ensures ∙ ids-changed node revived (λ s. refl) l.nodes;
        list = rw same.list at c.push.ensures.list;
        weight = rw same.weight at c.push.ensures.weight;
        owner = refl;
        room = refl;
      },
      sym (l.dead node) ∙ was,
      c.len.ensures ∙ (ap length (rw same.list at c.push.ensures.list) ∙ length-append l.journal.list _),
    )
