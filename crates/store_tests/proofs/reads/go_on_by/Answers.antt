use Rattle.std.proofs.Common.{◌∙◌, refl, ap}
use Rattle.step_table.specs.Calls.{replied}
use Rattle.store_tests.proofs.GoingLemmas.{goes_further, may_step, tells_more, tells_nothing}
use Rattle.store_tests.proofs.reads.go_on_by.Goals as goal

pub loop-step-init : goal.loop-step-init
loop-step-init g c = record { goes = c.requires.goes_on; call = refl; adds = tells_nothing _ _; store = refl; number = c.requires.number; made = refl }

pub step-requires-clause-may : goal.step-requires-clause-may
step-requires-clause-may g c = may_step g.P.C.Codec g.P.T.Transform g.P.F.Folder _ _ _ c.loop-step.invariant.goes.ready

pub loop-step-preserved : goal.loop-step-preserved
loop-step-preserved g c =
    let before = c.loop-step.invariant in
    let e = c.step.ensures in
    record {
      goes = goes_further g.P.C.Codec g.P.T.Transform g.P.F.Folder _ _ _ _ _ _ _ e.steps (ap replied c.in-Moved.is) before.goes;
      call = e.steps.call ∙ before.call;
      adds = tells_more _ _ _ _ e.steps.turn _ _ before.call before.adds;
      store = e.steps.store ∙ before.store;
      number = e.number;
      made = e.made ∙ before.made;
    }

pub returns-in_default : goal.returns-in_default
returns-in_default g c =
    let before = c.loop-step.invariant in
    let e = c.step.ensures in
    record { adds = tells_more _ _ _ _ e.steps.turn _ _ before.call before.adds; store = e.steps.store ∙ before.store; number = e.number; made = e.made ∙ before.made }
