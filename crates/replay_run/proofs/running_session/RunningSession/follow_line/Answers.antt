use Rattle.std.proofs.Common.{◌+◌, sym, subst, arith}
use Rattle.script_lang.specs.declared.plan.run_line.Act.{Act}
use Rattle.replay_run.specs.Lines.{Follows}
use Rattle.replay_run.specs.SessionSteps.{NamesNode}
use Rattle.replay_run.specs.SessionView.{rules_in, state_in, store_in}
use Rattle.replay_run.proofs.session.ClientTurns.{both_ok}
use Rattle.replay_run.proofs.session.SessionAsked.{few_on, few_within}
use Rattle.replay_run.proofs.running_session.RunningSession.follow_line.Goals as goal

pub returns-in-Update-clause-follows : goal.returns-in-Update-clause-follows
returns-in-Update-clause-follows c =
    let old = c.args.self.now in
    both_ok c.ask.result c.ask.ensures.asks c.ask.ensures.asks
    (λ asks again. subst (λ (act : Act). Follows (rules_in old.shelf) (store_in old.shelf) c.args.line.now.client.0 act (state_in old) (state_in c.ask.new.self)) (sym c.in-Update.is) asks)

pub returns-in-Read-clause-follows : goal.returns-in-Read-clause-follows
returns-in-Read-clause-follows c =
    let old = c.args.self.now in
    both_ok c.ask-in-Read.result c.ask-in-Read.ensures.asks c.ask-in-Read.ensures.asks
    (λ asks again. subst (λ (act : Act). Follows (rules_in old.shelf) (store_in old.shelf) c.args.line.now.client.0 act (state_in old) (state_in c.ask-in-Read.new.self)) (sym c.in-Read.is) asks)

pub ask-requires-in-Restart-clause-named : goal.ask-requires-in-Restart-clause-named
ask-requires-in-Restart-clause-named c = subst (NamesNode (store_in c.args.self.now.shelf).nodes) c.in-Restart.is c.requires.line.named

pub returns-in-Restart-clause-follows : goal.returns-in-Restart-clause-follows
returns-in-Restart-clause-follows c =
    let old = c.args.self.now in
    both_ok c.ask-in-Restart.result c.ask-in-Restart.ensures.asks c.ask-in-Restart.ensures.asks
    (λ asks again. subst (λ (act : Act). Follows (rules_in old.shelf) (store_in old.shelf) c.args.line.now.client.0 act (state_in old) (state_in c.ask-in-Restart.new.self)) (sym c.in-Restart.is) asks)

pub returns-in-Go-clause-follows : goal.returns-in-Go-clause-follows
returns-in-Go-clause-follows c =
    let old = c.args.self.now in
    both_ok c.go_times.result c.go_times.ensures.steps c.go_times.ensures.steps
    (λ steps again. subst (λ (act : Act). Follows (rules_in old.shelf) (store_in old.shelf) c.args.line.now.client.0 act (state_in old) (state_in c.go_times.new.self)) (sym c.in-Go.is) steps)

pub returns-in-Go-clause-few : goal.returns-in-Go-clause-few
returns-in-Go-clause-few c =
    let old = c.args.self.now in
    let new = c.go_times.new.self in
    both_ok c.go_times.result c.go_times.ensures.keeps c.go_times.ensures.keeps (λ keeps again most few. few_within most (most + 1) new (omega arith) (few_on most old new c.go_times.ensures.asked few))
