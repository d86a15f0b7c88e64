-- So many rounds have been gone, and each left less to do.
use Rattle.std.proofs.Common.{ℕ}
use Rattle.replay_run.specs.Rounds.{Rounds}
use Rattle.replay_run.specs.SessionView.{rules_in, state_in, store_in}
use Rattle.replay_run.specs.WorkLeft.{work_left}
use Rattle.replay_run.proofs.session.SessionAsked.{GoneOn}
use Rattle.replay_run.proofs.running_session.RunningSession.finish.Given as goal

abbrev pub invariant-loop-alloc : goal.invariant-loop-alloc
invariant-loop-alloc l = record {
  rest : (rounds : ℕ) × Rounds (rules_in l.initial.self.shelf) (store_in l.initial.self.shelf) rounds (state_in l.initial.self) (state_in l.self);
  on : GoneOn l.initial.self l.self;
}

abbrev pub decreases-loop-alloc : goal.decreases-loop-alloc
decreases-loop-alloc l = work_left (store_in l.self.shelf).limits.file (state_in l.self)
