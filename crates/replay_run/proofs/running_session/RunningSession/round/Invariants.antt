-- So many clients have had their step.
use Rattle.replay_run.specs.Rounds.{StepsEach}
use Rattle.replay_run.specs.SessionView.{rules_in, state_in, store_in}
use Rattle.replay_run.specs.WorkLeft.{RoundSoFar}
use Rattle.replay_run.proofs.session.SessionAsked.{GoneOn}
use Rattle.replay_run.proofs.running_session.RunningSession.round.Given as goal

abbrev pub invariant-loop-place : goal.invariant-loop-place
invariant-loop-place l = record {
  steps : StepsEach (rules_in l.initial.self.shelf) (store_in l.initial.self.shelf) 0 l.place (state_in l.initial.self) (state_in l.self);
  so_far : RoundSoFar (store_in l.initial.self.shelf).limits.file (state_in l.initial.self) l.place (state_in l.self);
  on : GoneOn l.initial.self l.self;
}
