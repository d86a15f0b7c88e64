use Rattle.std.proofs.Common.{arith, rules, sym, refl, ap, ◌∙◌, true}
use Rattle.shelf.specs.NodeStates.{dead_by, death_place, died_by, has_dead, has_ready, ids, initialised, living, ready_by}
use Rattle.shelf.proofs.LedgerLemmas.{dead_other, last_other, other_edition, quiet_freed, ready_marked}
use Rattle.shelf.proofs.NodeStateLemmas.{ids-changed, known-changed, known-kept, known_there, living-same}
use Rattle.shelf.proofs.ledger.Ledger.finish_init.Goals as goal

pub invariant_of-self : goal.invariant_of-self
invariant_of-self g c =
    let l = c.args.self.now in
    let is = c.push.ensures.list in
    let node = c.args.call.node in
    let now = c.make_ready.ensures in
    let made = known-changed ready_by node initialised (λ s. refl) l.nodes true (known_there ready_by initialised true (λ s. refl) node l.nodes c.requires.node) in
    record {
      has_room = omega (arith, l.has_room, c.push.ensures.room, c.requires.room, ap living now ∙ living-same node initialised (λ s. refl) l.nodes);
      weight_fits = omega (arith, c.push.ensures.weight);
      counts_editions = l.counts_editions ∙ sym (other_edition _ _ _ is refl);
      quiet = λ call open_now. c.release.ensures ∙ quiet_freed _ _ _ is _ l.quiet c.requires.owner refl c.requires.ended call open_now;
      ready = ready_marked _ _ _ is node l.nodes _ true (λ n. refl) l.ready (λ n. ap (has_ready n) now ∙ made n);
      dead = λ n. ap (has_dead n) now ∙ (known-kept dead_by node initialised (λ s. refl) l.nodes (λ s. refl) n ∙ dead_other _ _ _ is _ l.dead (λ x. refl) n);
      last = λ n. ap (death_place n) now ∙ (known-kept died_by node initialised (λ s. refl) l.nodes (λ s. refl) n ∙ last_other _ _ _ is _ l.last (λ x. refl) n);
    }

pub returns : goal.returns
returns g c =
    record {
      base = search rules;
      bounds = search rules;
      nodes = ap ids c.make_ready.ensures ∙ ids-changed c.args.call.node initialised (λ s. refl) c.args.self.now.nodes;
      list = search rules;
      weight = search rules;
      owner = search rules;
      room = search rules;
    }
