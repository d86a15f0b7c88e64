-- What a step of a client may be: a turn of the call that it is at, a look of a read that has not begun, or nothing.
use Rattle.std.proofs.Common.{◌≡◌, Option, Some, None, unwrap_or, refl, sym, ap, subst}
use Rattle.script_lang.specs.declared.plan.run_line.Act.{Act}
use Rattle.script_lang.specs.declared.plan.run_line.Act.TheVariants as act
use Rattle.shelf.specs.declared.store.Store.{Store}
use Rattle.replay_run.specs.RunState.{Client, NodeView, act_now, call_now, new_call}
use Rattle.replay_run.specs.Settings.{PrefCall, PrefRules, Value}
use Rattle.replay_run.specs.Steps.{ClientSteps, Looks, ReadSteps, StepsBy, TakesTurn}

-- what a call that takes turns is asked for
abbrev pub IsCalled : Act → Type 0
IsCalled (act.Update edit) = Unit {0}
IsCalled act.Read = Unit {0}
IsCalled (act.Restart node) = Unit {0}
IsCalled other = ⊥

module _ (r : PrefRules) {M : Type 0} (s : Store Value M) (client : Client) (view : NodeView) (client_after : Client) (view_after : NodeView) where
  pub data StepCase : Type 0 where
    rests : act_now client ≡ None → client_after ≡ client → view_after ≡ view → StepCase
    turns : (asked : Act) → IsCalled asked → act_now client ≡ Some asked → TakesTurn r s (call_now client asked) client view client_after view_after → StepCase
    looks : act_now client ≡ Some act.Read → client.running ≡ None → Looks r s client view client_after view_after → StepCase

  read_case : (running : Option PrefCall) → client.running ≡ running → act_now client ≡ Some act.Read → ReadSteps r s running client view client_after view_after → StepCase
  read_case None idle at_it look = looks at_it idle look
  read_case (Some call) runs at_it turn =
      turns act.Read tt at_it (subst (λ call. TakesTurn r s call client view client_after view_after) (sym (ap (λ running. unwrap_or running (new_call client act.Read)) runs)) turn)

  case_by : (asked : Option Act) → act_now client ≡ asked → StepsBy r s asked client view client_after view_after → StepCase
  case_by None none steps = rests none steps.0 steps.1
  case_by (Some (act.Update edit)) at_it turn = turns (act.Update edit) tt at_it turn
  case_by (Some (act.Restart node)) at_it turn = turns (act.Restart node) tt at_it turn
  case_by (Some act.Read) at_it steps = read_case client.running refl at_it steps
  case_by (Some other) at_it steps = absurd steps

  pub step_case : ClientSteps r s client view client_after view_after → StepCase
  step_case steps = case_by (act_now client) refl steps
