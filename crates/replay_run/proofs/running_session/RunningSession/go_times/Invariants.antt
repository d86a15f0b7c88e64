-- So many steps have been done so far.
use Rattle.replay_run.specs.Lines.{StepsTimes}
use Rattle.replay_run.specs.SessionView.{rules_in, state_in, store_in}
use Rattle.replay_run.proofs.session.SessionAsked.{GoneOn}
use Rattle.replay_run.proofs.running_session.RunningSession.go_times.Given as goal

abbrev pub invariant-loop-step : goal.invariant-loop-step
invariant-loop-step l = record {
  steps : StepsTimes (rules_in l.initial.self.shelf) (store_in l.initial.self.shelf) l.place l._step (state_in l.initial.self) (state_in l.self);
  on : GoneOn l.initial.self l.self;
}
