-- The end of a session: the clients go on in rounds, or a stop of the machine cuts them off.
use Rattle.std.specs.Prelude.{◌≡◌, ℕ, suc, zero, ◌+◌, false, length, Option, Some, None}
use Rattle.std.specs.List.{list_any}
use Rattle.shelf.specs.declared.store.Store.{Store}
use Rattle.replay_run.specs.RunState.{RunState, is_busy}
use Rattle.replay_run.specs.Settings.{PrefRules, Value}
use Rattle.replay_run.specs.Steps.{StepsAt}

-- nobody has anything to do
abbrev pub IsOver : RunState → Type 0
IsOver state = list_any is_busy state.clients ≡ false

module _ (r : PrefRules) {M : Type 0} (s : Store Value M) where
  -- so many clients from this place on, one after another
  unfoldable pub StepsEach : (place clients : ℕ) → RunState → RunState → Type 0
  StepsEach place zero old new = new ≡ old
  StepsEach place (suc clients) old new = (between : RunState) × StepsAt r s place old between × StepsEach (place + 1) clients between new

  -- each client that has something to do does a step
  abbrev pub Round : RunState → RunState → Type 0
  Round old = StepsEach 0 (length old.clients) old

  unfoldable pub Rounds : ℕ → RunState → RunState → Type 0
  Rounds zero old new = new ≡ old
  Rounds (suc rounds) old new = (between : RunState) × Round old between × Rounds rounds between new

  -- the clients go on in rounds until nobody has anything to do
  pub record Finishes (old new : RunState) : Type 0 where
    pub rounds : ℕ
    pub rest : Rounds rounds old new
    pub over : IsOver new

  -- by the stop of the plan, if it has one
  abbrev pub EndsBy : Option ℕ → RunState → RunState → Type 0
  EndsBy None old new = Finishes old new
  EndsBy (Some image) old new = new ≡ old
