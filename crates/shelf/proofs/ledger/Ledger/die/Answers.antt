use Rattle.std.proofs.Common.{arith, rules, sym, refl, ap, ◌∙◌, ℕ, Some, cond, false, true}
use Rattle.hist_journal.specs.Kinds.{is_node}
use Rattle.shelf.specs.NodeStates.{dead_by, death_place, died_by, has_dead, has_ready, ids, killed, living, ready_by}
use Rattle.shelf.proofs.LedgerLemmas.{dead_marked, freed_node_room-le, last_killed, other_edition, quiet_killed, ready_marked}
use Rattle.shelf.proofs.NodeStateLemmas.{ids-changed, known-changed, known_there, living-killed}
use Rattle.shelf.proofs.ledger.Ledger.die.Goals as goal

pub push-requires : goal.push-requires
push-requires g c =
    let l = c.args.self.now in
    let node = c.args.call.node in
    omega (arith, l.has_room, living-killed node 0 l.nodes c.requires.node (l.dead node ∙ c.requires.lives))

pub invariant_of-self : goal.invariant_of-self
invariant_of-self g c =
    let l = c.args.self.now in
    let is = c.push.ensures.list in
    let node = c.args.call.node in
    let place = c.len-place.result in
    let now = c.kill.ensures in
    let there = c.requires.node in
    let fewer = living-killed node place l.nodes there (l.dead node ∙ c.requires.lives) in
    let less = freed_node_room-le node c.owner.result l.reserved in
    let unready = known-changed ready_by node (killed place) (λ s. refl) l.nodes false (known_there ready_by (killed place) false (λ s. refl) node l.nodes there) in
    let dies = known-changed dead_by node (killed place) (λ s. refl) l.nodes true (known_there dead_by (killed place) true (λ s. refl) node l.nodes there) in
    let stands = known-changed died_by node (killed place) (λ s. refl) l.nodes (Some place) (known_there died_by (killed place) (Some place) (λ s. refl) node l.nodes there) in
    record {
      has_room = omega (arith, l.has_room, c.push.ensures.room, ap living now, fewer, less, c.room_without-self.ensures);
      weight_fits = omega (arith, c.push.ensures.weight);
      counts_editions = l.counts_editions ∙ sym (other_edition _ _ _ is refl);
      quiet = λ call open_now. c.free_node.ensures ∙ quiet_killed _ _ _ is l.lock node refl l.quiet call open_now;
      ready = ready_marked _ _ _ is node l.nodes _ false (λ n. refl) l.ready (λ n. ap (has_ready n) now ∙ unready n);
      dead = dead_marked _ _ _ is node l.nodes _ true (λ n. refl) l.dead (λ n. ap (has_dead n) now ∙ dies n);
      last = last_killed _ _ _ is node l.nodes _ refl l.last (λ n. ap (death_place n) now ∙ (stands n ∙ ap (λ (p : ℕ). cond (is_node n node) (Some p) (death_place n l.nodes)) c.len-place.ensures));
    }

pub returns-clause-entry : goal.returns-clause-entry
returns-clause-entry g c =
    record {
      base = search rules;
      bounds = search rules;
      nodes = ap ids c.kill.ensures ∙ ids-changed c.args.call.node (killed c.len-place.result) (λ s. refl) c.args.self.now.nodes;
      list = search rules;
      weight = search rules;
      owner = search rules;
      room = search rules;
    }
