-- A restart is done in one turn.
use Rattle.std.proofs.Common.{◌≡◌, ◌∙◌, true, refl, ap}
use Rattle.store_traits.specs.declared.ids.CallId.{CallId}
use Rattle.shelf.specs.declared.store.Store.{Store}
use Rattle.shelf.proofs.Bools.{never}
use Rattle.step_table.specs.declared.progress.Progress.{Progress}
use Rattle.step_table.specs.Calls.{At, Reply, is_gone}
use Rattle.step_table.specs.Effects.{Effect, at_by}
use Rattle.step_table.specs.Rows.{Row, finds_alive, lacks_room_to_restart, restarts}
use Rattle.step_table.specs.Turn.{Turn}
use Rattle.step_table.specs.World.{Turned}
use Rattle.replay_run.specs.Settings.{Change, PrefCall, PrefRules, PrefWorld, Value}
use Rattle.replay_run.proofs.keeping.OwnEdits.{is_restarting}
use Rattle.replay_run.proofs.keeping.TurnCases.{TurnCase, dead, struck, turn_case, works}

module _ (r : PrefRules) {M : Type 0} (s : Store Value M) where
  row_ends : (w : PrefWorld) (call : CallId) {at : At Value Change} {e : Effect Value Change} → Row r s w call at e → is_restarting at ≡ true → is_gone (at_by e.next at) ≡ true
  row_ends w call (finds_alive alive) is = refl
  row_ends w call (lacks_room_to_restart is_dead) is = refl
  row_ends w call (restarts is_dead) is = refl
  row_ends w call other is = never is

  module _ (t : Turned Value Change) (gave : Progress (Reply Value)) (turn : Turn r s t gave) (is : is_restarting t.call.at ≡ true) where
    ends_by : TurnCase r s t gave turn → is_gone (at_by turn.effect.next t.call.at) ≡ true
    ends_by (dead died it) = rw it.is refl
    ends_by (struck lives planned so) = rw so refl
    ends_by (works it) = row_ends t.world t.call.id it.row is

    pub restart_ends : is_gone t.call_after.at ≡ true
    restart_ends = ap (λ (c : PrefCall). is_gone c.at) turn.comes.call ∙ ends_by (turn_case r s t gave turn)
