-- The answers that the client of a turn had stay true, and show nothing beyond what was there.
use Rattle.std.proofs.Common.{◌≡◌, ◌≤◌, ◌<◌, ◌+◌, ◌&&◌, ℕ, nat_le, Bool, false, length, arith}
use Rattle.std.specs.List.{list_any}
use Rattle.std.proofs.lemmas.Bool.Decides.{nat_tests}
use Rattle.hist_journal.specs.Folds.{edition_of}
use Rattle.shelf.specs.declared.store.Store.{Store}
use Rattle.shelf.specs.Each.{Each}
use Rattle.shelf.specs.Places.{is_up_to}
use Rattle.step_table.proofs.Applying.{none_passes}
use Rattle.script_lang.specs.Shown.{shown_to}
use Rattle.replay_run.specs.ClientInvariant.{IsTrueAnswer}
use Rattle.replay_run.specs.RunState.{RunState, call_at}
use Rattle.replay_run.specs.Settings.{PrefRules, PrefWorld, Value}
use Rattle.replay_run.proofs.keeping.AnswerLemmas.{answers_more, shown_stays, shown_within}
use Rattle.replay_run.proofs.keeping.ClientTurns.{ClientTurn, added, adds, call, kept, mine, more}

up_to_none : (same : Bool) (earlier place nth : ℕ) → place < nth → (same && nat_le (earlier + nth + 1) (earlier + place + 1)) ≡ false
up_to_none same earlier place nth less = grind (arith, nat_tests, less)

module _ {r : PrefRules} {M : Type 0} {s : Store Value M} {state : RunState} (k : ClientTurn r s state) where
  abbrev w : PrefWorld
  w = state.shared.world

  over_own : (nth : ℕ) → nth + 1 ≤ length k.client.answered → list_any (is_up_to (call_at k.client nth)) (more k) ≡ false
  over_own nth within =
      none_passes (call k).id (added k) (is_up_to (call_at k.client nth)) (λ kind. rw (kept k).id (up_to_none _ k.client.earlier nth (length k.client.answered) (omega (arith, within))))

  pub still_true : Each (IsTrueAnswer r s k.w_after.history k.client) k.client.answered
  still_true = rw (adds k) (answers_more r s k.client w.history (more k) k.client.answered (mine k).answers over_own)

  -- what was shown to the client
  abbrev pub shown : ℕ
  shown = shown_to k.client.id k.w_after.history k.client.answered

  pub within_now : shown ≤ edition_of w.history
  within_now = rw (adds k, shown_stays r s k.client w.history (more k) k.client.answered (mine k).answers) (shown_within r s k.client w.history k.client.answered (mine k).answers)
