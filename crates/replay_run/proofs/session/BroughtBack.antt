-- Which node a client's step brings back.
use Rattle.std.proofs.Common.{◌≡◌, ◌∙◌, ℕ, Bool, true, false, [], Some, None, option_map, refl, sym, ap, subst, is_ok, Result, Ok, Err}
use Rattle.std.specs.Bool.{then_some}
use Rattle.store_traits.specs.declared.ids.NodeId.{NodeId}
use Rattle.prefs_text.specs.declared.seen.AnswerLineSeen.{AnswerLineSeen}
use Rattle.prefs_text.specs.declared.seen.AnswerSeen.{AnswerSeen}
use Rattle.prefs_text.specs.declared.seen.AnswerSeen.TheVariants as seen
use Rattle.script_lang.specs.declared.plan.run_line.Act.{Act}
use Rattle.script_lang.specs.declared.plan.run_line.Act.TheVariants as act
use Rattle.shelf.specs.declared.answers.RestartError.{RestartError}
use Rattle.shelf.specs.declared.answers.RestartError.TheVariants as restart
use Rattle.shelf.proofs.Bools.{never}
use Rattle.step_table.specs.Calls.{At, Restarting}
use Rattle.step_table.specs.declared.progress.Progress.TheVariants.{Ended}
use Rattle.node_core.specs.declared.init_call.InitCall.TheVariants as init
use Rattle.node_core.specs.declared.read_call.ReadState.{ReadState}
use Rattle.node_core.specs.declared.read_call.ReadState.TheVariants as reading
use Rattle.node_core.specs.declared.update_call.State.{State}
use Rattle.node_core.specs.declared.update_call.State.TheVariants as state
use Rattle.node_core.specs.declared.write_call.WriteCall.{WriteCall}
use Rattle.node_core.specs.declared.write_call.WriteCall.TheVariants as write
use Rattle.node_core.specs.Restarting.{reply_of_restart}
use Rattle.node_core.specs.Views.{read_seen, state_seen, write_seen}
use Rattle.replay_run.specs.declared.running.Running.{Running}
use Rattle.replay_run.specs.declared.running.Running.TheVariants as running
use Rattle.replay_run.specs.Answering.{behind_turn, client_answered}
use Rattle.replay_run.specs.ClientInvariant.{CallInvariant, IsForAct}
use Rattle.replay_run.specs.RunState.{Client, act_now}
use Rattle.replay_run.specs.SessionView.{running_seen}
use Rattle.replay_run.specs.Settings.{PrefCall, PrefRules, PrefStore, PrefWorld}
use Rattle.replay_run.specs.Steps.{answer_given, brought_back, restarted_by}
use Rattle.replay_run.proofs.keeping.BehindTurns.{line_of}
use Rattle.replay_run.proofs.keeping.StepsKeep.{IsNoRestart, none_back}
use Rattle.replay_run.proofs.lists.JoinedLemmas.{found_between}
use Rattle.replay_run.proofs.lists.OptionLemmas.{nothing, one_of}

module _ {V T : Type 0} where
  abbrev is_restarting : At V T → Bool
  is_restarting (Restarting node) = true
  is_restarting other = false

module _ {P C T F V : Type 0} where
  writing : (call : WriteCall P C T F V) → is_restarting (write_seen call) ≡ false
  writing (write.Raise plan change) = refl
  writing (write.Create plan change) = refl
  writing (write.Append plan change) = refl
  writing (write.SyncScratch plan change) = refl
  writing (write.Rename plan change) = refl

  updating : (call : State P C T F V) → is_restarting (state_seen call) ≡ false
  updating (state.First edit) = refl
  updating (state.Initialise edit init.Read) = refl
  updating (state.Initialise edit (init.Migrate value)) = refl
  updating (state.Initialise edit init.Finish) = refl
  updating (state.Read edit) = refl
  updating (state.Write call) = writing call
  updating (state.SyncChanged place kept) = refl
  updating (state.SyncKept edit) = refl
  updating state.Gone = refl

  reads : (call : ReadState P C T F V) → is_restarting (read_seen call) ≡ false
  reads reading.Look = refl
  reads reading.First = refl
  reads (reading.Initialise init.Read) = refl
  reads (reading.Initialise (init.Migrate value)) = refl
  reads (reading.Initialise init.Finish) = refl
  reads reading.Locked = refl
  reads reading.Unlocked = refl
  reads (reading.Gone kept) = refl

-- a restart ends in its first turn, and so no call that runs is one
runs_no_restart : (call : Running) → is_restarting (running_seen call).at ≡ false
runs_no_restart (running.Update call) = updating call.state
runs_no_restart (running.Read call) = reads call.state

by_act : (asked : Act) → ((node : NodeId) → asked ≡ act.Restart node → ⊥) → IsNoRestart (Some asked)
by_act (act.Restart node) other = other node refl
by_act asked other = tt

-- so it brings no node back
module _ (r : PrefRules) (s : PrefStore) (client after : Client) (w : PrefWorld) where
  pub running_brings_none : (asked : Act) (call : Running) → act_now client ≡ Some asked → CallInvariant r s client w (running_seen call) → brought_back client after ≡ None
  running_brings_none asked call is its =
      none_back client after (Some asked) is
      (by_act asked
      (λ node restarts.
      let at : its.asked ≡ act.Restart node = one_of its.asked (act.Restart node) (sym its.at_it ∙ (is ∙ ap Some restarts)) in
      let restarting = subst (λ (a : Act). IsForAct (running_seen call).id a (running_seen call).at w.history) at its.is_for in
      never (sym (runs_no_restart call) ∙ ap is_restarting restarting)))

-- what a restart answers tells whether its node was brought back
given_is : (client : Client) (call : PrefCall) (answer : AnswerSeen) → answer_given client (client_answered client call.id answer) ≡ Some answer
given_is client call answer = ap (option_map (λ (line : AnswerLineSeen). line.answer)) (found_between client.answered (line_of call.id answer) [])

told_by : (client now : Client) (call : PrefCall) (node : NodeId) (answer : AnswerSeen) → Some (client_answered client call.id answer) ≡ Some now → restarted_by (Some (act.Restart node)) (Some answer) ≡ restarted_by (Some (act.Restart node)) (answer_given client now)
told_by client now call node answer is =
    subst (λ (c : Client). restarted_by (Some (act.Restart node)) (Some answer) ≡ restarted_by (Some (act.Restart node)) (answer_given client c)) (one_of (client_answered client call.id answer) now is)
    (ap (restarted_by (Some (act.Restart node))) (sym (given_is client call answer)))

pub restart_told : (client now : Client) (call : PrefCall) (node : NodeId) (answer : Result ℕ RestartError) → behind_turn client call (Ended (reply_of_restart answer)) ≡ Some now
    → then_some (is_ok answer) node ≡ restarted_by (Some (act.Restart node)) (answer_given client now)
restart_told client now call node (Ok place) is = told_by client now call node (seen.Restarted place) is
restart_told client now call node (Err (restart.Died place)) is = told_by client now call node (seen.Died place) is
restart_told client now call node (Err restart.NotDead) is = told_by client now call node seen.NotDead is
restart_told client now call node (Err restart.NoMemory) is = nothing now is
