use Rattle.std.proofs.Common.{List, ap, length, subst}
use Rattle.store_traits.specs.declared.ids.NodeId.{NodeId}
use Rattle.replay_run.specs.NewClients.{AreNew}
use Rattle.replay_run.specs.ShelfOpens.{first_nodes}
use Rattle.replay_run.proofs.session.ShelfOpening.{is_opened}
use Rattle.replay_run.proofs.session.TrueCacheLemmas.{none_kept}
use Rattle.replay_run.proofs.running_session.RunningSession.open.Goals as goal

pub invariant_of-result : goal.invariant_of-result
invariant_of-result c = record { cached = ∣ none_kept c.add_nodes.new.shelf c.in_ok-empty_caches.field-0.items (first_nodes _) c.in_ok-empty_caches.ensures ∣₁ }

pub returns-clause-opened : goal.returns-clause-opened
returns-clause-opened c =
    let clients = c.in_ok-new_clients.field-0 in
    let new = subst (λ (homes : List NodeId). AreNew homes clients.items) c.as_slice.ensures c.in_ok-new_clients.ensures in
    is_opened c.args.script.now c.args.plan.now (record { shelf = c.add_nodes.new.shelf; word = c.new.result; caches = c.in_ok-empty_caches.field-0; clients = clients; cached = c.result-2-1.given.0 }) c.in_ok-shelf.shelf (length c.names.result.now) c.requires.keeps c.requires.plan c.in_ok-shelf.ensures c.in_ok-add_nodes.ensures
    (ap length c.names.ensures) new c.in_ok-empty_caches.ensures c.new.ensures
