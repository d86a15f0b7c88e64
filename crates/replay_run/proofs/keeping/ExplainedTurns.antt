-- The answer of a call that ends by its own work shows in the history.
use Rattle.std.proofs.Common.{◌≡◌, ◌∙◌, ℕ, true, false, List, [], ◌++◌, append-nil, Some, None, Option, IfSome, MatchOption, sym, ap, subst}
use Rattle.store_traits.specs.declared.ids.NodeId.{NodeId}
use Rattle.store_traits.specs.declared.read_error.ReadError.{ReadError}
use Rattle.store_traits.specs.declared.read_error.ReadError.TheVariants as read
use Rattle.store_traits.specs.declared.update_error.UpdateError.{UpdateError}
use Rattle.store_traits.specs.declared.update_error.UpdateError.TheVariants as error
use Rattle.hist_journal.specs.Folds.{edition_of}
use Rattle.prefs_text.specs.EntryText.{PrefEntry}
use Rattle.prefs_text.specs.declared.seen.AnswerSeen.{AnswerSeen}
use Rattle.shelf.specs.declared.store.Store.{Store}
use Rattle.shelf.specs.Causes.{HasCause, HasReadCause}
use Rattle.shelf.proofs.Bools.{never}
use Rattle.step_table.specs.declared.progress.Progress.TheVariants.{Ended}
use Rattle.step_table.specs.Calls.{Failed, Gave, Read, Reply, Restarting, Update, Updated}
use Rattle.step_table.specs.Effects.{gave_by}
use Rattle.step_table.specs.Turn.{Turn}
use Rattle.step_table.proofs.Applying.{entries_of}
use Rattle.node_core.specs.Knows.{Knows}
use Rattle.node_core.specs.Shown.{ShowsReadCause, ShowsReply, as_read}
use Rattle.node_core.proofs.CauseOfAnswers.{told_cause, told_read_cause, turn_shows}
use Rattle.script_lang.specs.declared.plan.run_line.Act.{Act}
use Rattle.script_lang.specs.declared.plan.run_line.Act.TheVariants as act
use Rattle.replay_run.specs.Answering.{error_told, reply_told}
use Rattle.replay_run.specs.ClientInvariant.{IsExplained, IsForAct}
use Rattle.replay_run.specs.RunState.{RunState}
use Rattle.replay_run.specs.Settings.{Change, PrefAsk, PrefRules, PrefWorld, Value}
use Rattle.replay_run.proofs.keeping.AnswerLemmas.{cause_of_less, read_cause_of_less}
use Rattle.replay_run.proofs.keeping.ClientTurns.{ClientTurn, call, kept, knows, turned}
use Rattle.replay_run.proofs.keeping.OwnAnswers.{shown, within_now}
use Rattle.replay_run.proofs.keeping.OwnEdits.{act_for}
use Rattle.replay_run.proofs.keeping.OwnTurns.{adds_own, kinds_of}
use Rattle.replay_run.proofs.keeping.RowAnswers.{RestartsSo, is_dying, row_lives, row_restarted}
use Rattle.replay_run.proofs.keeping.TurnCases.{Worked}
use Rattle.replay_run.proofs.lists.OptionLemmas.{one_of}

module _ {r : PrefRules} {M : Type 0} {s : Store Value M} {state : RunState} (k : ClientTurn r s state) (reply : Reply Value) (turn : Turn r s (turned k) (Ended reply)) (work : Worked r s (turned k) (Ended reply) turn) where
  abbrev w : PrefWorld
  w = state.shared.world

  abbrev list_after : List PrefEntry
  list_after = k.w_after.history

  abbrev edition_now : ℕ
  edition_now = edition_of w.history

  knew : Knows r s w (call k)
  knew = knows k work.lives

  abbrev Shows : PrefAsk → Reply Value → Type 0
  Shows ask reply = ShowsReply w.told r s edition_now (call k).id ask reply list_after

  abbrev IsExplainedNow : Act → AnswerSeen → Type 0
  IsExplainedNow = IsExplained r s list_after (shown k) (call k).id

  -- it is no death that ends the call
  no_death : (place : ℕ) → reply ≡ Failed (error.Died place) → false ≡ true
  no_death place is = sym (ap is_dying turn.comes.given ∙ row_lives r s w (call k).id work.row) ∙ ap (λ reply. is_dying (Ended reply)) is

  update_error_explained : (edit : Change) (err : UpdateError) → HasCause r s (shown k) (call k).id edit err list_after → IfSome (error_told err) (IsExplainedNow (act.Update edit))
  update_error_explained edit error.NoMemory cause = tt
  update_error_explained edit other cause = cause

  read_error_explained : (err : UpdateError) → MatchOption (as_read err) ⊥ (λ why. HasReadCause r s (shown k) (call k).id why list_after) → IfSome (error_told err) (IsExplainedNow act.Read)
  read_error_explained (error.Refused code edition) cause = absurd cause
  read_error_explained error.NoMemory cause = tt
  read_error_explained other cause = cause

  died_as_read : (err : UpdateError) (place : ℕ) → as_read err ≡ Some (read.Died place) → err ≡ error.Died place
  died_as_read (error.Died at) place is = let same : read.Died at ≡ read.Died place = one_of (read.Died at) (read.Died place) is in let equal : at ≡ place = cc in ap error.Died equal
  died_as_read (error.Refused code edition) place is = absurd cc
  died_as_read other place is = let same = one_of _ (read.Died place) is in absurd cc

  read_caused : (why : Option ReadError) → ((at : ℕ) → why ≡ Some (read.Died at) → false ≡ true) → MatchOption why ⊥ (λ why. ShowsReadCause w.told r s edition_now (call k).id why list_after) → MatchOption why ⊥ (λ why. HasReadCause r s (shown k) (call k).id why list_after)
  read_caused None lives cause = cause
  read_caused (Some why) lives cause =
      read_cause_of_less r s (shown k) edition_now (call k).id why list_after (within_now k)
      (told_read_cause r s w.told edition_now (call k).id why list_after k.well.told (λ at is. never (lives at (ap Some is))) cause)

  explained_by : (ask : PrefAsk) (gave : Reply Value) → ((place : ℕ) → gave ≡ Failed (error.Died place) → false ≡ true) → Shows ask gave → IfSome (reply_told gave) (IsExplainedNow (act_for ask))
  explained_by (Update edit) (Updated edition) lives shows = shows
  explained_by (Update edit) (Failed err) lives shows =
      update_error_explained edit err
      (cause_of_less r s (shown k) edition_now (call k).id edit err list_after (within_now k)
      (told_cause r s edit w.told edition_now (call k).id err list_after k.well.told (λ at is. never (lives at (ap Failed is))) shows))
  explained_by (Update edit) other lives shows = absurd shows
  explained_by Read (Gave edition value) lives shows = record { front = list_after; back = []; is = sym (append-nil list_after); holds = record { reached = sym shows.reached; value = shows.held k.well.told } }
  explained_by Read (Failed err) lives shows = read_error_explained err (read_caused (as_read err) (λ at is. lives at (ap Failed (died_as_read err at is))) shows)
  explained_by Read other lives shows = absurd shows

  -- of an update or of a read
  asked_explained : (ask : PrefAsk) → IsForAct (call k).id (act_for ask) (call k).at w.history → IfSome (reply_told reply) (IsExplainedNow (act_for ask))
  asked_explained (Update edit) so = explained_by (Update edit) reply no_death (turn_shows r s (Update edit) (turned k) (knows k) k.well.reads so (Ended reply) turn)
  asked_explained Read so = explained_by Read reply no_death (turn_shows r s Read (turned k) (knows k) k.well.reads so (Ended reply) turn)

  -- of a restart
  restart_explained : (node : NodeId) → (call k).at ≡ Restarting node → IfSome (reply_told reply) (IsExplainedNow (act.Restart node))
  restart_explained node at =
      let row : RestartsSo r s w (call k).id (call k).at (gave_by turn.effect.next) (w.history ++ entries_of (call k).id (kinds_of (turned k) turn.effect)) =
      row_restarted r s w (call k).id k.w_after.tally.count work.row (kept k).entries in
      let here : RestartsSo r s w (call k).id (call k).at (Ended reply) list_after = rw (adds_own r s (turned k) (Ended reply) turn, turn.comes.given) row in
      subst (λ at. RestartsSo r s w (call k).id at (Ended reply) list_after) at here

  -- whatever it was asked for
  pub explains : (asked : Act) → IsForAct (call k).id asked (call k).at w.history → IfSome (reply_told reply) (IsExplainedNow asked)
  explains (act.Update edit) so = asked_explained (Update edit) so
  explains act.Read so = asked_explained Read so
  explains (act.Restart node) so = restart_explained node so
  explains other so = absurd so
