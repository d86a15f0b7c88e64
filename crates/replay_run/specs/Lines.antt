-- What the lines of a script have its clients do.
use Rattle.std.specs.Prelude.{◌≡◌, ℕ, suc, zero, List, [], ◌∷◌, ◌++◌, filter, map, Some, slice_get, slice_set}
use Rattle.script_lang.specs.Asked.{is_call_line_of}
use Rattle.script_lang.specs.declared.plan.run_line.Act.{Act}
use Rattle.script_lang.specs.declared.plan.run_line.Act.TheVariants.{Go}
use Rattle.script_lang.specs.declared.plan.run_line.RunLine.{RunLine}
use Rattle.shelf.specs.declared.store.Store.{Store}
use Rattle.replay_run.specs.RunState.{Client, RunState}
use Rattle.replay_run.specs.Settings.{PrefRules, Value}
use Rattle.replay_run.specs.Steps.{StepsAt}

abbrev pub with_act : Act → Client → Client
with_act act client = record client { asked = client.asked ++ act ∷ [] }

-- the client at this place is asked for one more call
pub record Asks (place : ℕ) (act : Act) (old new : RunState) : Type 0 where
  pub client : Client
  pub was : slice_get old.clients place ≡ Some client
  pub now : new ≡ record old { clients = slice_set old.clients place (with_act act client) }

module _ (r : PrefRules) {M : Type 0} (s : Store Value M) where
  unfoldable pub StepsTimes : (place steps : ℕ) → RunState → RunState → Type 0
  StepsTimes place zero old new = new ≡ old
  StepsTimes place (suc steps) old new = (between : RunState) × StepsAt r s place old between × StepsTimes place steps between new

  abbrev pub Follows : (place : ℕ) → Act → RunState → RunState → Type 0
  Follows place (Go steps) = StepsTimes place steps
  Follows place act = Asks place act

  -- the lines are followed in their order
  unfoldable pub FollowsAll : List RunLine → RunState → RunState → Type 0
  FollowsAll [] old new = new ≡ old
  FollowsAll (line ∷ lines) old new = (between : RunState) × Follows line.client.0 line.act old between × FollowsAll lines between new

-- what the lines ask of this client
abbrev pub acts_for : ℕ → List RunLine → List Act
acts_for place lines = map (λ line. line.act) (filter (is_call_line_of (record { 0 = place })) lines)
