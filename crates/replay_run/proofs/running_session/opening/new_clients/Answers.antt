use Rattle.std.proofs.Common.{◌+◌, List, take, sym, subst}
use Rattle.replay_run.specs.declared.client.Client as own
use Rattle.replay_run.specs.NewClients.{AreNew}
use Rattle.replay_run.proofs.session.OpeningLemmas.{one_more}
use Rattle.replay_run.proofs.running_session.opening.new_clients.Goals as goal

pub loop-place-preserved : goal.loop-place-preserved
loop-place-preserved c =
    let homes = c.args.homes.now in
    let place = c.loop-place.place in
    let client = c.new.result in
    subst (λ (items : List own.Client). AreNew (take (place + 1) homes) items) (sym {A = List own.Client} c.in_ok-push.ensures.items)
    (one_more homes place (record { 0 = 0 }) c.loop-place-test.true c.loop-place.clients.items client c.new.ensures.client c.new.ensures.asked c.new.ensures.answered c.loop-place.invariant)
