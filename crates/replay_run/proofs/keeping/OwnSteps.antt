-- The step that the call of a turn is at.
use Rattle.std.proofs.Common.{◌≡◌, false}
use Rattle.shelf.specs.declared.store.Store.{Store}
use Rattle.step_table.specs.Turn.{dies_now}
use Rattle.step_table.specs.World.{begin, step_of}
use Rattle.script_lang.specs.GoodFailures.{plans}
use Rattle.replay_run.specs.RunState.{RunState}
use Rattle.replay_run.specs.Settings.{PrefRules, Value}
use Rattle.replay_run.proofs.keeping.ClientTurns.{ClientTurn, call, kept, turned}
use Rattle.replay_run.proofs.keeping.OwnNone.{no_death}
use Rattle.replay_run.proofs.keeping.StepsSpared.{is_at, none_here}

module _ {r : PrefRules} {M : Type 0} {s : Store Value M} {state : RunState} (k : ClientTurn r s state) where
  -- where no death strikes it, none was planned for that step
  pub step_aside : dies_now (begin (turned k)) ≡ false → plans (is_at (step_of (turned k))) (call k).id s.deaths ≡ false
  step_aside unplanned =
      none_here (call k).id (step_of (turned k)) s.deaths state.shared.world.deaths state.shared.world.history k.keeps.used (no_death (call k).id state.shared.world.history (call k).at (kept k).entries) unplanned
