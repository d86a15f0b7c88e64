use Rattle.std.proofs.Common.{Ok, subst}
use Rattle.step_table.specs.Caching.{found}
use Rattle.value_cache.specs.Cached.{kept_seen}
use Rattle.node_core.specs.Looking.{LooksAt}
use Rattle.replay_run.proofs.session.ClientTurns.{both_ok, look_found}
use Rattle.replay_run.proofs.client.Client.look.Goals as goal

pub returns-in-Some-clause-looks : goal.returns-in-Some-clause-looks
returns-in-Some-clause-looks c =
    let seen = found (kept_seen c.args.cache.now) c.args.version in
    let looks = subst (λ given. LooksAt seen (Ok given)) c.in-Some.is c.in_ok-given.ensures.looks in
    both_ok c.end.result c.end.ensures.answered c.end.ensures.answered (λ answered again. look_found c.args.self.now c.end.new.self seen c.in-Some.given looks answered)
