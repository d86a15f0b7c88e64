use Rattle.std.proofs.Common.{◌≡◌, ◌∙◌, Some, false, length, sym, true, subst}
use Rattle.std.proofs.Math.Logic.{∥∥₁_map}
use Rattle.store_traits.specs.declared.update_error.UpdateError.TheVariants.{Died}
use Rattle.shelf.specs.Dying.{BeginRow, LivesOn}
use Rattle.shelf.specs.ShelfSeen.{ShelfSeen, shelf_seen}
use Rattle.step_table.specs.Calls.{Failed, Gone, Read, step_at}
use Rattle.step_table.specs.declared.progress.Progress.TheVariants.{Ended}
use Rattle.node_core.specs.Phases.{is_holding}
use Rattle.node_core.specs.Step.{SparesRoom}
use Rattle.node_core.specs.Steps.{read_replied}
use Rattle.node_core.specs.Views.{read_seen}
use Rattle.node_core.proofs.DyingTurns.{dead_publishes, dead_raises, dead_steps, may_die}
use Rattle.node_core.proofs.ForLemmas.{read_is_for}
use Rattle.node_core.proofs.ReadyLemmas.{ready_now}
use Rattle.node_core.proofs.ShelfReads.{reads_truly}
use Rattle.node_core.proofs.TurnLemmas.{StepGives, begun, begun_is, gives_of, ready_begun, step_gives}
use Rattle.node_core.proofs.read_call.ReadCall.step.Goals as goal

pub begin-death-requires-clause-lawful : goal.begin-death-requires-clause-lawful
begin-death-requires-clause-lawful g c = λ told alive. may_die g.P.C.Codec g.P.T.Transform g.P.F.Folder c.args.self.now.origin _ _ c.requires.may alive

pub work-requires-clause-ready : goal.work-requires-clause-ready
work-requires-clause-ready g c =
    let on = c.in_default.ensures in
    let origin : c.begin.new.self.origin ≡ begun c.args.self.now.origin (length c.args.shelf.now.ledger.journal.list) = begun_is c.args.self.now.origin _ _ _ _ c.begin.ensures.origin c.len-entries.ensures c.journal.ensures in
    rw (origin, c.begin.ensures.state, on.same)
    (ready_begun g.P.C.Codec g.P.T.Transform g.P.F.Folder c.args.self.now.origin _ _ (ready_now g.P.C.Codec g.P.T.Transform g.P.F.Folder c.args.self.now.origin _ _ c.requires.may on.lives))

-- all that the step gives where no death ends the call
gives : (g : _) (c : goal.After-work g)
    → StepGives g.P.C.Codec g.P.T.Transform g.P.F.Folder c.args.self.now.origin (read_seen c.args.self.now.state) (read_seen c.work.new.self.state) (shelf_seen c.args.shelf.now) (shelf_seen c.work.new.shelf) c.requires.may
    (reads_truly c.args.shelf.now g.row.P-C-Value.coded (g.met.P.C.Codec.read_once c.args.shelf.now.codec) (g.met.P.C.Codec.read_back c.args.shelf.now.codec)) c.args.shelf.now.ledger.quiet c.requires.running (read_replied c.work.result)
gives g c =
    let s = c.args.shelf.now in
    let on : LivesOn c.args.self.now.origin.call (step_at true (read_seen c.args.self.now.state)) c.args.self.now.origin.since (shelf_seen s) (shelf_seen c.begin-death.new.self) = rw (← c.step_where.ensures) c.in_default.ensures in
    let origin : c.begin.new.self.origin ≡ begun c.args.self.now.origin (length s.ledger.journal.list) = begun_is c.args.self.now.origin _ _ _ _ c.begin.ensures.origin c.len-entries.ensures c.journal.ensures in
    let steps = rw (origin, c.begin.ensures.state, on.same) at c.work.ensures.steps in
    let spares : is_holding (read_seen c.args.self.now.state) ≡ false → SparesRoom g.P.C.Codec g.P.T.Transform g.P.F.Folder c.args.self.now.origin (shelf_seen s) (shelf_seen c.work.new.shelf) =
    subst (λ (old : ShelfSeen _ _ _ _). is_holding (read_seen c.args.self.now.state) ≡ false → SparesRoom g.P.C.Codec g.P.T.Transform g.P.F.Folder c.args.self.now.origin old (shelf_seen c.work.new.shelf)) on.same
    (rw (origin, c.begin.ensures.state) at c.work.ensures.spares)
    in
    step_gives g.P.C.Codec g.P.T.Transform g.P.F.Folder c.args.self.now.origin _ _ (shelf_seen s) (shelf_seen c.work.new.shelf) c.requires.may _ s.ledger.quiet c.requires.running on.lives on.unplanned (read_replied c.work.result) steps spares

pub returns-clause-steps : goal.returns-clause-steps
returns-clause-steps g c =
    let origin : c.begin.new.self.origin ≡ begun c.args.self.now.origin (length c.args.shelf.now.ledger.journal.list) = begun_is c.args.self.now.origin _ _ _ _ c.begin.ensures.origin c.len-entries.ensures c.journal.ensures in
    rw (c.work.ensures.origin, origin) (gives g c).steps

pub returns-clause-current : goal.returns-clause-current
returns-clause-current g c = λ told. rw (c.work.ensures.published, c.begin.ensures.state) ((gives g c).current told)

pub returns-clause-kept : goal.returns-clause-kept
returns-clause-kept g c = λ told. ∥∥₁_map c.work.new.shelf.kept (λ kept. kept.main told)

pub returns-clause-quiet : goal.returns-clause-quiet
returns-clause-quiet g c = c.work.new.shelf.ledger.quiet

pub returns-clause-shown : goal.returns-clause-shown
returns-clause-shown g c = (gives g c).shown Read (read_is_for c.args.self.now.origin.call c.args.self.now.state _)

-- and where one does
died : (g : _) (c : goal.After-die g)
    → StepGives g.P.C.Codec g.P.T.Transform g.P.F.Folder c.args.self.now.origin (read_seen c.args.self.now.state) Gone (shelf_seen c.args.shelf.now) (shelf_seen c.begin-death.new.self) c.requires.may
    (reads_truly c.args.shelf.now g.row.P-C-Value.coded (g.met.P.C.Codec.read_once c.args.shelf.now.codec) (g.met.P.C.Codec.read_back c.args.shelf.now.codec)) c.args.shelf.now.ledger.quiet c.requires.running (Ended (Failed (Died c.in-Some.at)))
died g c =
    let s = c.args.shelf.now in
    let row : BeginRow c.args.self.now.origin.call (step_at true (read_seen c.args.self.now.state)) c.args.self.now.origin.since (Some c.in-Some.at) (shelf_seen s) (shelf_seen c.begin-death.new.self) = rw (← c.step_where.ensures) c.in-Some.ensures in
    gives_of g.P.C.Codec g.P.T.Transform g.P.F.Folder c.args.self.now.origin _ Gone (shelf_seen s) (shelf_seen c.begin-death.new.self) c.requires.may _ s.ledger.quiet c.requires.running _
    (dead_steps g.P.C.Codec g.P.T.Transform g.P.F.Folder c.args.self.now.origin _ (shelf_seen s) (shelf_seen c.begin-death.new.self) c.requires.running c.in-Some.at row)

pub returns-in-Some-clause-steps : goal.returns-in-Some-clause-steps
returns-in-Some-clause-steps g c =
    let origin : c.begin.new.self.origin ≡ begun c.args.self.now.origin (length c.args.shelf.now.ledger.journal.list) = begun_is c.args.self.now.origin _ _ _ _ c.begin.ensures.origin c.len-entries.ensures c.journal.ensures in
    rw (c.die.ensures.answer, c.die.ensures.state, c.die.ensures.origin, origin) (died g c).steps

pub returns-in-Some-clause-published : goal.returns-in-Some-clause-published
returns-in-Some-clause-published g c = rw (c.die.ensures.answer, c.die.ensures.state) (sym (dead_publishes (read_seen c.args.self.now.state) c.in-Some.at _))

pub returns-in-Some-clause-current : goal.returns-in-Some-clause-current
returns-in-Some-clause-current g c = λ told. rw c.die.ensures.state tt

pub returns-in-Some-clause-kept : goal.returns-in-Some-clause-kept
returns-in-Some-clause-kept g c = λ told. ∥∥₁_map c.begin-death.new.self.kept (λ kept. kept.main told)

pub returns-in-Some-clause-quiet : goal.returns-in-Some-clause-quiet
returns-in-Some-clause-quiet g c = c.begin-death.new.self.ledger.quiet

pub returns-in-Some-clause-shown : goal.returns-in-Some-clause-shown
returns-in-Some-clause-shown g c = rw c.die.ensures.answer ((died g c).shown Read (read_is_for c.args.self.now.origin.call c.args.self.now.state _))

pub returns-in-Some-clause-number : goal.returns-in-Some-clause-number
returns-in-Some-clause-number g c = c.requires.number ∙ sym (dead_raises _ _ (shelf_seen c.args.shelf.now) (shelf_seen c.begin-death.new.self) _ c.in-Some.at c.in-Some.ensures)
