use Rattle.std.proofs.Common.{◌∙◌, inl, inr, ◌<◌, suc, refl, sym, subst}
use Rattle.shelf.proofs.Bools.{never}
use Rattle.replay_run.specs.Rounds.{Round}
use Rattle.replay_run.specs.SessionView.{rules_in, state_in, store_in}
use Rattle.replay_run.specs.Settings.{PrefStore}
use Rattle.replay_run.specs.WorkLeft.{work_left}
use Rattle.replay_run.proofs.session.SessionAsked.{busy_seen, few_on}
use Rattle.replay_run.proofs.work.RunLemmas.{rounds_none, rounds_push}
use Rattle.replay_run.proofs.running_session.RunningSession.finish.Goals as goal

pub loop-alloc-init : goal.loop-alloc-init
loop-alloc-init c =
    let old = c.args.self.now in
    record { rest = (0, rounds_none (rules_in old.shelf) (store_in old.shelf) (state_in old)); on = record { keeps = c.requires.keeps; store = refl; asked = refl } }

pub round-requires-clause-keeps : goal.round-requires-clause-keeps
round-requires-clause-keeps c = c.loop-alloc.invariant.on.keeps

pub round-requires-clause-few : goal.round-requires-clause-few
round-requires-clause-few c = few_on 100000 c.args.self.now c.loop-alloc.self c.loop-alloc.invariant.on.asked c.requires.few

pub loop-alloc-smaller : goal.loop-alloc-smaller
loop-alloc-smaller c =
    let mid = c.loop-alloc.self in
    let new = c.round.new.self in
    elim c.in_ok-round.ensures.falls [
      | inl over ↦ never (sym over ∙ (busy_seen mid ∙ (sym c.is_busy.ensures ∙ c.loop-alloc-test.true)))
      | inr less ↦ subst (λ (s : PrefStore). work_left s.limits.file (state_in new) < work_left (store_in mid.shelf).limits.file (state_in mid)) (sym c.round.ensures.store) less
    ]

pub loop-alloc-preserved : goal.loop-alloc-preserved
loop-alloc-preserved c =
    let old = c.args.self.now in
    let mid = c.loop-alloc.self in
    let new = c.round.new.self in
    let it = c.loop-alloc.invariant in
    let round = subst (λ (s : PrefStore). Round (rules_in old.shelf) s (state_in mid) (state_in new)) it.on.store c.in_ok-round.ensures.round in
    record {
      rest = (suc it.rest.0, rounds_push (rules_in old.shelf) (store_in old.shelf) it.rest.0 (state_in old) (state_in mid) (state_in new) it.rest.1 round);
      on = record { keeps = c.in_ok-round.ensures.keeps; store = c.round.ensures.store ∙ it.on.store; asked = c.round.ensures.asked ∙ it.on.asked };
    }

pub returns-in_err-round-clause-store : goal.returns-in_err-round-clause-store
returns-in_err-round-clause-store c = c.round.ensures.store ∙ c.loop-alloc.invariant.on.store

pub returns-clause-finishes : goal.returns-clause-finishes
returns-clause-finishes c =
    record {
      rounds = c.loop-alloc.invariant.rest.0;
      rest = c.loop-alloc.invariant.rest.1;
      over = busy_seen c.loop-alloc.self ∙ (sym c.is_busy.ensures ∙ c.loop-alloc-test.false);
    }

pub returns-clause-keeps : goal.returns-clause-keeps
returns-clause-keeps c = c.loop-alloc.invariant.on.keeps

pub returns-clause-store : goal.returns-clause-store
returns-clause-store c = c.loop-alloc.invariant.on.store
