-- So many lines have been followed, and nobody was asked for more updates than those.
use Rattle.std.proofs.Common.{◌≡◌, take, vec_len}
use Rattle.replay_run.specs.Lines.{FollowsAll}
use Rattle.replay_run.specs.SessionInvariant.{AsksFew, SessionInvariant}
use Rattle.replay_run.specs.SessionView.{rules_in, state_in, store_in}
use Rattle.replay_run.proofs.running_session.RunningSession.follow.Given as goal

abbrev pub invariant-loop-line : goal.invariant-loop-line
invariant-loop-line l = record {
  follows : FollowsAll (rules_in l.initial.self.shelf) (store_in l.initial.self.shelf) (take l.line-index l.lines) (state_in l.initial.self) (state_in l.self);
  keeps : SessionInvariant l.self;
  few : AsksFew l.line-index l.self;
  store : store_in l.self.shelf ≡ store_in l.initial.self.shelf;
  clients : vec_len l.self.clients ≡ vec_len l.initial.self.clients;
}
