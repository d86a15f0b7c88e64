use Rattle.std.proofs.Common.{◌≡◌, ◌∙◌, IfOk, Some, option_map, refl, sym, ap, subst}
use Rattle.value_cache.specs.Cached.{kept_seen}
use Rattle.script_lang.specs.declared.plan.run_line.Act.TheVariants as act
use Rattle.replay_run.specs.declared.task.Task.TheVariants as task
use Rattle.replay_run.specs.RunState.{new_call}
use Rattle.replay_run.specs.SessionView.{client_seen, rules_in, running_seen, store_in, task_seen, view_in, world_in}
use Rattle.replay_run.specs.Steps.{answer_given, restarted_by}
use Rattle.replay_run.proofs.keeping.StepsKeep.{none_back}
use Rattle.replay_run.proofs.session.BroughtBack.{running_brings_none}
use Rattle.replay_run.proofs.session.ClientTurns.{asked, both_ok, fewer_answers, look_steps, new_may, restart_may, restart_steps, running_its, running_may, running_steps, update_steps}
use Rattle.replay_run.proofs.client.Client.go.Goals as goal

pub turn-requires-clause-may : goal.turn-requires-clause-may
turn-requires-clause-may c =
    running_may c.args.shelf.now c.args.self.now c.requires.may c.in-Some.task (sym c.task_now.ensures ∙ c.in-Some.is) c.take.new.self c.take.ensures.after c.in-Some-take.call (sym c.take.ensures.value ∙ c.in-Some-take.is)

pub turn-requires-clause-few : goal.turn-requires-clause-few
turn-requires-clause-few c = fewer_answers c.args.self.now c.in-Some.task 100000 (sym c.task_now.ensures ∙ c.in-Some.is) c.requires.few

pub new_update-requires : goal.new_update-requires
new_update-requires c = record { few = fewer_answers c.args.self.now c.in-Some.task 100000 (sym c.task_now.ensures ∙ c.in-Some.is) c.requires.few }

pub turn-requires-in-Update-clause-may : goal.turn-requires-in-Update-clause-may
turn-requires-in-Update-clause-may c =
    new_may c.args.shelf.now c.args.self.now c.requires.may (task.Update c.in-Update.edit) (sym c.task_now.ensures ∙ (c.in-Some.is ∙ ap Some c.in-Update.is)) c.take.new.self c.take.ensures.after c.in-Update.edit.now c.in_ok-call-in-Update.call refl
    (sym c.take.ensures.value ∙ c.in-None.is) c.in_ok-call-in-Update.ensures.call

pub turn-requires-in-Update-clause-few : goal.turn-requires-in-Update-clause-few
turn-requires-in-Update-clause-few c = fewer_answers c.args.self.now c.in-Some.task 100000 (sym c.task_now.ensures ∙ c.in-Some.is) c.requires.few

pub look-requires-clause-few : goal.look-requires-clause-few
look-requires-clause-few c = fewer_answers c.args.self.now c.in-Some.task 100000 (sym c.task_now.ensures ∙ c.in-Some.is) c.requires.few

pub restart-requires-clause-may : goal.restart-requires-clause-may
restart-requires-clause-may c =
    restart_may c.args.shelf.now c.args.self.now c.requires.may c.in-Some.task (sym c.task_now.ensures ∙ c.in-Some.is) c.take.new.self c.take.ensures.after c.in-Restart.node c.in-Restart.is (sym c.take.ensures.value ∙ c.in-None.is)

pub restart-requires-clause-few : goal.restart-requires-clause-few
restart-requires-clause-few c = fewer_answers c.args.self.now c.in-Some.task 100000 (sym c.task_now.ensures ∙ c.in-Some.is) c.requires.few

pub returns-in_ok-turn-in-Some-take-clause-steps : goal.returns-in_ok-turn-in-Some-take-clause-steps
returns-in_ok-turn-in-Some-take-clause-steps c =
    let old = c.args.shelf.now in
    let client = c.args.self.now in
    let its = asked old client c.requires.may c.in-Some.task (sym c.task_now.ensures ∙ c.in-Some.is) in
    running_steps old client c.turn.new.self c.take.new.self (view_in old c.args.cache.now) (view_in c.turn.new.shelf c.turn.new.cache) (running_seen c.in-Some-take.call) c.in_ok-turn-in-Some-take.ensures.steps c.in-Some.task its
    (ap (option_map running_seen) (sym c.take.ensures.value ∙ c.in-Some-take.is))

pub returns-in_ok-turn-in-Some-take-clause-back : goal.returns-in_ok-turn-in-Some-take-clause-back
returns-in_ok-turn-in-Some-take-clause-back c =
    let old = c.args.shelf.now in
    let client = c.args.self.now in
    let found = sym c.task_now.ensures ∙ c.in-Some.is in
    sym
    (running_brings_none (rules_in old) (store_in old) (client_seen client) (client_seen c.turn.new.self) (world_in old) (task_seen c.in-Some.task) c.in-Some-take.call (asked old client c.requires.may c.in-Some.task found)
    (running_its old client c.requires.may c.in-Some.task found c.in-Some-take.call (sym c.take.ensures.value ∙ c.in-Some-take.is)))

pub returns-in_ok-turn-in-Update-clause-steps : goal.returns-in_ok-turn-in-Update-clause-steps
returns-in_ok-turn-in-Update-clause-steps c =
    let old = c.args.shelf.now in
    let client = c.args.self.now in
    let edit = c.in-Update.edit in
    let its = asked old client c.requires.may (task.Update edit) (sym c.task_now.ensures ∙ (c.in-Some.is ∙ ap Some c.in-Update.is)) in
    update_steps old client c.turn-in-Update.new.self c.take.new.self (view_in old c.args.cache.now) (view_in c.turn-in-Update.new.shelf c.turn-in-Update.new.cache) (running_seen c.in_ok-call-in-Update.call) c.in_ok-turn-in-Update.ensures.steps
    (sym c.take.ensures.value ∙ c.in-None.is) edit.now its c.in_ok-call-in-Update.ensures.call

pub returns-in_ok-turn-in-Update-clause-back : goal.returns-in_ok-turn-in-Update-clause-back
returns-in_ok-turn-in-Update-clause-back c =
    let its = asked c.args.shelf.now c.args.self.now c.requires.may (task.Update c.in-Update.edit) (sym c.task_now.ensures ∙ (c.in-Some.is ∙ ap Some c.in-Update.is)) in
    sym (none_back (client_seen c.args.self.now) (client_seen c.turn-in-Update.new.self) (Some (act.Update c.in-Update.edit.now)) its tt)

pub returns-in_ok-look-in-Read-clause-steps : goal.returns-in_ok-look-in-Read-clause-steps
returns-in_ok-look-in-Read-clause-steps c =
    let old = c.args.shelf.now in
    let client = c.args.self.now in
    let its = asked old client c.requires.may task.Read (sym c.task_now.ensures ∙ (c.in-Some.is ∙ ap Some c.in-Read.is)) in
    look_steps old client c.look.new.self c.take.new.self (kept_seen c.args.cache.now) c.load.result its (sym c.take.ensures.value ∙ c.in-None.is) (c.load.ensures.value ∙ c.requires.number) c.in_ok-look-in-Read.ensures.looks

pub returns-in_ok-look-in-Read-clause-back : goal.returns-in_ok-look-in-Read-clause-back
returns-in_ok-look-in-Read-clause-back c =
    let its = asked c.args.shelf.now c.args.self.now c.requires.may task.Read (sym c.task_now.ensures ∙ (c.in-Some.is ∙ ap Some c.in-Read.is)) in
    sym (none_back (client_seen c.args.self.now) (client_seen c.look.new.self) (Some act.Read) its tt)

pub returns-in-Restart-clause-steps : goal.returns-in-Restart-clause-steps
returns-in-Restart-clause-steps c =
    let old = c.args.shelf.now in
    let client = c.args.self.now in
    let node = c.in-Restart.node in
    let its = asked old client c.requires.may (task.Restart node) (sym c.task_now.ensures ∙ (c.in-Some.is ∙ ap Some c.in-Restart.is)) in
    both_ok c.restart.result c.restart.ensures.steps c.restart.ensures.steps
    (λ turn again.
    restart_steps old client c.restart.new.self c.take.new.self (view_in old c.args.cache.now) (view_in c.restart.new.shelf c.args.cache.now) (new_call (client_seen client) (act.Restart node)) (turn (kept_seen c.args.cache.now))
    (sym c.take.ensures.value ∙ c.in-None.is) node its refl)

pub returns-in-Restart-clause-back : goal.returns-in-Restart-clause-back
returns-in-Restart-clause-back c =
    let client = c.args.self.now in
    let its = asked c.args.shelf.now client c.requires.may (task.Restart c.in-Restart.node) (sym c.task_now.ensures ∙ (c.in-Some.is ∙ ap Some c.in-Restart.is)) in
    subst (λ o. IfOk c.restart.result (λ back. back ≡ restarted_by o (answer_given (client_seen client) (client_seen c.restart.new.self)))) (sym its) c.restart.ensures.back
