-- What each step keeps, many steps keep.
use Rattle.std.proofs.Common.{◌+◌, ℕ, suc, zero, length, sym, subst}
use Rattle.shelf.specs.declared.store.Store.{Store}
use Rattle.replay_run.specs.Lines.{StepsTimes}
use Rattle.replay_run.specs.Rounds.{Rounds, StepsEach}
use Rattle.replay_run.specs.RunState.{RunState}
use Rattle.replay_run.specs.Settings.{PrefRules, Value}
use Rattle.replay_run.specs.Steps.{StepsAt}

module _ (r : PrefRules) {M : Type 0} (s : Store Value M) (Kept : RunState → Type 0) (keep : (place : ℕ) (old new : RunState) → StepsAt r s place old new → Kept old → Kept new) where
  pub times_keep : (place steps : ℕ) (old new : RunState) → StepsTimes r s place steps old new → Kept old → Kept new
  unfolding StepsTimes
  times_keep place zero old new it kept = subst Kept (sym it) kept
  times_keep place (suc steps) old new it kept = times_keep place steps it.0 new it.2 (keep place old it.0 it.1 kept)

  pub each_keep : (place clients : ℕ) (old new : RunState) → StepsEach r s place clients old new → Kept old → Kept new
  unfolding StepsEach
  each_keep place zero old new it kept = subst Kept (sym it) kept
  each_keep place (suc clients) old new it kept = each_keep (place + 1) clients it.0 new it.2 (keep place old it.0 it.1 kept)

  pub rounds_keep : (rounds : ℕ) (old new : RunState) → Rounds r s rounds old new → Kept old → Kept new
  unfolding Rounds
  rounds_keep zero old new it kept = subst Kept (sym it) kept
  rounds_keep (suc rounds) old new it kept = rounds_keep rounds it.0 new it.2 (each_keep 0 (length old.clients) old it.0 it.1 kept)
