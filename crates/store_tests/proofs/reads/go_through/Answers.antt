use Rattle.std.proofs.Common.{◌∙◌, refl, ap}
use Rattle.node_core.specs.Steps.{read_replied}
use Rattle.store_tests.proofs.GoingLemmas.{goes_further, may_step, tells_more, tells_nothing}
use Rattle.store_tests.proofs.reads.go_through.Goals as goal

pub loop-place-init : goal.loop-place-init
loop-place-init g c = record { goes = c.requires.goes_on; call = refl; adds = tells_nothing _ _; store = refl; number = c.requires.number; made = refl }

pub step-requires-clause-may : goal.step-requires-clause-may
step-requires-clause-may g c = may_step g.P.C.Codec g.P.T.Transform g.P.F.Folder _ _ _ c.loop-place.invariant.goes.ready

pub loop-place-preserved : goal.loop-place-preserved
loop-place-preserved g c =
    let before = c.loop-place.invariant in
    let e = c.step.ensures in
    record {
      goes = goes_further g.P.C.Codec g.P.T.Transform g.P.F.Folder _ _ _ _ _ _ _ e.steps (ap read_replied c.in-Moved.is) before.goes;
      call = e.steps.call ∙ before.call;
      adds = tells_more _ _ _ _ e.steps.turn _ _ before.call before.adds;
      store = e.steps.store ∙ before.store;
      number = e.number;
      made = e.made ∙ before.made;
    }

pub returns-in-Ended-clause-adds : goal.returns-in-Ended-clause-adds
returns-in-Ended-clause-adds g c =
    let before = c.loop-place.invariant in
    tells_more _ _ _ _ c.step.ensures.steps.turn _ _ before.call before.adds

pub returns-in-Blocked-clause-adds : goal.returns-in-Blocked-clause-adds
returns-in-Blocked-clause-adds g c =
    let before = c.loop-place.invariant in
    tells_more _ _ _ _ c.step.ensures.steps.turn _ _ before.call before.adds
