-- What is kept in the end of a session.
use Rattle.std.specs.Prelude.{◌≡◌}
use Rattle.shelf.specs.declared.store.Store.{Store}
use Rattle.shelf.specs.Images.{main_at}
use Rattle.shelf.specs.Legal.{Legal}
use Rattle.replay_run.specs.RunInvariant.{RunInvariant}
use Rattle.replay_run.specs.RunState.{RunState}
use Rattle.replay_run.specs.Settings.{PrefRules, Value}

-- beside what each step keeps, the history is lawful, and main is what it comes to
pub record EndInvariant (r : PrefRules) {M : Type 0} (s : Store Value M) (end : RunState) : Type 0 where
  pub state : RunInvariant r s end
  pub history : Legal r.meanings s end.shared.world.history
  pub main : end.shared.world.folder.main ≡ main_at r.meanings r.encoded s end.shared.world.history
