use Rattle.std.proofs.Common.{◌∙◌, refl, ap}
use Rattle.std.specs.Bool.{then_some}
use Rattle.node_core.specs.Restarting.{reply_of_restart}
use Rattle.script_lang.specs.declared.plan.run_line.Act.TheVariants as act
use Rattle.replay_run.specs.RunState.{new_call}
use Rattle.replay_run.specs.SessionView.{client_seen}
use Rattle.replay_run.specs.Settings.{PrefCall}
use Rattle.replay_run.proofs.session.BroughtBack.{restart_told}
use Rattle.replay_run.proofs.session.ClientTurns.{restart_spares, restarts}
use Rattle.replay_run.proofs.session.TrueCacheLemmas.{left_true}
use Rattle.replay_run.proofs.client.Client.restart.Goals as goal

pub returns-in_err-end-clause-spares : goal.returns-in_err-end-clause-spares
returns-in_err-end-clause-spares c =
    restart_spares c.args.shelf.now c.restart-answer.new.shelf c.args.self.now c.end.new.self c.args.node (reply_of_restart c.restart-answer.result) c.next_call.result c.next_call.ensures c.restart-answer.ensures.steps

pub returns-in_err-end-clause-caches : goal.returns-in_err-end-clause-caches
returns-in_err-end-clause-caches c = left_true c.args.shelf.now c.restart-answer.new.shelf c.restart-answer.ensures.steps

pub returns-clause-steps : goal.returns-clause-steps
returns-clause-steps c =
    restarts c.args.shelf.now c.restart-answer.new.shelf c.args.self.now c.end.new.self c.args.node (reply_of_restart c.restart-answer.result) c.next_call.result c.next_call.ensures c.restart-answer.ensures.steps refl refl c.in_ok-end.ensures.answered

pub returns-clause-back : goal.returns-clause-back
returns-clause-back c =
    let client = c.args.self.now in
    let call : PrefCall = new_call (client_seen client) (act.Restart c.args.node) in
    let told = restart_told (client_seen client) (client_seen c.end.new.self) call c.args.node c.restart-answer.result (c.in_ok-end.ensures.answered call refl) in
    c.then_some-back.ensures ∙ (ap (λ back. then_some back c.args.node) c.is_ok.ensures.value ∙ told)

pub returns-clause-spares : goal.returns-clause-spares
returns-clause-spares c =
    restart_spares c.args.shelf.now c.restart-answer.new.shelf c.args.self.now c.end.new.self c.args.node (reply_of_restart c.restart-answer.result) c.next_call.result c.next_call.ensures c.restart-answer.ensures.steps

pub returns-clause-caches : goal.returns-clause-caches
returns-clause-caches c = left_true c.args.shelf.now c.restart-answer.new.shelf c.restart-answer.ensures.steps
