use Rattle.std.proofs.Common.{◌∙◌, refl, ap}
use Rattle.step_table.specs.Calls.{replied}
use Rattle.store_tests.proofs.AloneLemmas.{frees, goes_on_alone, has_fewer_left, never_waits}
use Rattle.store_tests.proofs.GoingLemmas.{may_step, tells_more, tells_nothing}
use Rattle.store_tests.proofs.alone.go_on.Goals as goal

pub step-requires-clause-may : goal.step-requires-clause-may
step-requires-clause-may g c = may_step g.P.C.Codec g.P.T.Transform g.P.F.Folder _ _ _ c.loop-answer.invariant.alone.goes.ready

pub unreachable-requires : goal.unreachable-requires
unreachable-requires g c = never_waits _ _ _ _ c.before.step.ensures.steps.turn c.loop-answer.invariant.alone.owner (ap replied c.in-Blocked.is)

pub returns-in-Ended-clause-free : goal.returns-in-Ended-clause-free
returns-in-Ended-clause-free g c = frees _ _ _ _ c.before.step.ensures.steps.turn c.loop-answer.invariant.alone.owner c.loop-answer.invariant.alone.lives _ (ap replied c.in-Ended.is)

pub returns-in-Ended-clause-adds : goal.returns-in-Ended-clause-adds
returns-in-Ended-clause-adds g c =
    let before = c.loop-answer.invariant in
    tells_more _ _ _ _ c.before.step.ensures.steps.turn _ _ before.call before.adds

pub loop-answer-init : goal.loop-answer-init
loop-answer-init g c = record { alone = c.requires.alone; call = refl; adds = tells_nothing _ _; store = refl; number = c.requires.number; made = refl }

pub loop-answer-smaller : goal.loop-answer-smaller
loop-answer-smaller g c =
    let e = c.step.ensures in
    rw e.initialised (has_fewer_left g.P.C.Codec g.P.T.Transform g.P.F.Folder _ _ _ _ _ _ _ _ e.steps (ap replied c.in-Moved.is) c.loop-answer.invariant.alone)

pub loop-answer-preserved : goal.loop-answer-preserved
loop-answer-preserved g c =
    let before = c.loop-answer.invariant in
    let e = c.step.ensures in
    record {
      alone = rw e.initialised (goes_on_alone g.P.C.Codec g.P.T.Transform g.P.F.Folder _ _ _ _ _ _ _ _ e.steps (ap replied c.in-Moved.is) before.alone);
      call = e.steps.call ∙ before.call;
      adds = tells_more _ _ _ _ e.steps.turn _ _ before.call before.adds;
      store = e.steps.store ∙ before.store;
      number = e.number;
      made = e.made ∙ before.made;
    }
