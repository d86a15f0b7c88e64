-- A call that goes on behind its turn keeps what is to be kept of it.
use Rattle.std.proofs.Common.{◌≡◌, ◌∙◌, false, sym, ap, subst}
use Rattle.std.specs.List.{list_any}
use Rattle.shelf.specs.declared.store.Store.{Store}
use Rattle.shelf.specs.Deaths.{has_died}
use Rattle.shelf.proofs.Bools.{never}
use Rattle.shelf.proofs.DeathLemmas.{none_of_node}
use Rattle.step_table.specs.Calls.{Read, Update, is_gone}
use Rattle.step_table.specs.Effects.{at_by}
use Rattle.step_table.specs.World.{begin}
use Rattle.node_core.specs.Knows.{Knows}
use Rattle.node_core.proofs.ForLemmas.{turn_is_for}
use Rattle.step_table.proofs.GrowingDeaths.{still_lives}
use Rattle.node_core.proofs.KeepingLemmas.{turn_keeps_knowledge}
use Rattle.script_lang.specs.GoodFailures.{plans}
use Rattle.script_lang.specs.declared.plan.run_line.Act.{Act}
use Rattle.script_lang.specs.declared.plan.run_line.Act.TheVariants as act
use Rattle.replay_run.specs.ClientInvariant.{CallInvariant, IsForAct, is_behind}
use Rattle.replay_run.specs.RunState.{RunState}
use Rattle.replay_run.specs.Settings.{PrefCall, PrefRules, PrefWorld, Value}
use Rattle.replay_run.proofs.keeping.BehindTurns.{client_on}
use Rattle.replay_run.proofs.keeping.ClientTurns.{ClientTurn, adds, call, kept, knows, more, same_id, turned}
use Rattle.replay_run.proofs.keeping.Deaths.{dies}
use Rattle.replay_run.proofs.keeping.OwnEdits.{is_restarting}
use Rattle.replay_run.proofs.keeping.OwnTurns.{own_turn}
use Rattle.replay_run.proofs.keeping.OwnSteps.{step_aside}
use Rattle.replay_run.proofs.keeping.RestartTurns.{restart_ends}
use Rattle.replay_run.proofs.keeping.StepsSpared.{row_aside}
use Rattle.replay_run.proofs.keeping.TurnCases.{Worked, worked}

module _ {r : PrefRules} {M : Type 0} {s : Store Value M} {state : RunState} (k : ClientTurn r s state) where
  abbrev w : PrefWorld
  w = state.shared.world

  abbrev DidWork : Type 0
  DidWork = Worked r s (turned k) k.takes.gave k.takes.turn

  module _ (work : DidWork) where
    knew : Knows r s w (call k)
    knew = knows k work.lives

    -- its turn added no Death
    pub alive_more : list_any dies (more k) ≡ false
    alive_more = (own_turn r s (turned k) k.takes.gave k.takes.turn work.row knew.plan).alive

  module _ (goes_on : is_gone k.takes.call_after.at ≡ false) where
    abbrev after : PrefCall
    after = k.takes.call_after

    work : DidWork
    work = worked r s (turned k) k.takes.gave k.takes.turn goes_on

    -- where it is now
    at_after : after.at ≡ at_by k.takes.turn.effect.next (call k).at
    at_after = ap (λ (c : PrefCall). c.at) k.takes.turn.comes.call

    for_by : (asked : Act) → IsForAct (call k).id asked (call k).at w.history → IsForAct (call k).id asked after.at k.w_after.history
    for_by (act.Update edit) so = turn_is_for r s (Update edit) (turned k) k.takes.gave k.takes.turn (knew work) so
    for_by act.Read so = turn_is_for r s Read (turned k) k.takes.gave k.takes.turn (knew work) so
    for_by (act.Restart node) so = never (sym goes_on ∙ restart_ends r s (turned k) k.takes.gave k.takes.turn (ap is_restarting so))
    for_by other so = absurd so

    knows_after : Knows r s k.w_after after
    knows_after = turn_keeps_knowledge r s (turned k) k.takes.gave k.takes.turn (knew work) k.well.reads goes_on

    -- its node has not died
    lives_after : has_died after.id.node after.since k.w_after.history ≡ false
    lives_after =
        rw (k.takes.turn.comes.call, adds k)
        (still_lives (call k).id.node (begin (turned k)).call.since w.history (more k) (none_of_node (call k).id.node (more k) (alive_more work)) work.lives)

    aside_after : plans (is_behind after.at) (call k).id s.deaths ≡ false
    aside_after = rw at_after (row_aside r s w (call k).id s.deaths work.row (kept k).spared (step_aside k work.unplanned))

    pub call_goes_on : CallInvariant r s (client_on k.client after) k.w_after after
    call_goes_on =
        record {
          asked = (kept k).asked;
          at_it = (kept k).at_it;
          id = same_id k ∙ (kept k).id;
          is_for = subst (λ id. IsForAct id (kept k).asked after.at k.w_after.history) (sym (same_id k)) (for_by (kept k).asked (kept k).is_for);
          goes_on = goes_on;
          entries = knows_after.entries;
          knows = λ alive. knows_after;
          silent = λ died. never (sym lives_after ∙ died);
          spared = subst (λ id. plans (is_behind after.at) id s.deaths ≡ false) (sym (same_id k)) aside_after;
        }
