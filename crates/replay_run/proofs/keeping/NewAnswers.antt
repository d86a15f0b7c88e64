-- A call that its turn ends is answered by the truth.
use Rattle.std.proofs.Common.{◌≡◌, ◌++◌, false, List, Some, refl, sym, subst}
use Rattle.std.specs.List.{list_any}
use Rattle.std.proofs.lemmas.Bool.{and_right}
use Rattle.std.proofs.lemmas.Option.{IfSome_then}
use Rattle.prefs_text.specs.EntryText.{PrefEntry}
use Rattle.prefs_text.specs.declared.seen.AnswerSeen.{AnswerSeen}
use Rattle.hist_journal.specs.Kinds.{is_call}
use Rattle.shelf.specs.declared.store.Store.{Store}
use Rattle.shelf.specs.Entries.{is_own, is_update}
use Rattle.shelf.proofs.Bools.{none_in_both}
use Rattle.step_table.specs.declared.progress.Progress.TheVariants.{Ended}
use Rattle.step_table.specs.Calls.{Reply}
use Rattle.step_table.specs.Effects.{gave_by}
use Rattle.step_table.specs.Turn.{Turn}
use Rattle.step_table.proofs.Applying.{entries_of}
use Rattle.node_core.proofs.FailedCalls.{no_update}
use Rattle.script_lang.specs.GoodCauses.{may_stand}
use Rattle.script_lang.specs.GoodFailures.{Spares}
use Rattle.script_lang.specs.GoodUpdates.{has_restart, is_restart}
use Rattle.script_lang.specs.Shown.{printed}
use Rattle.replay_run.specs.Answering.{reply_told}
use Rattle.replay_run.specs.ClientInvariant.{IsTrueAnswer, is_restarted}
use Rattle.replay_run.specs.RunState.{RunState}
use Rattle.replay_run.specs.Settings.{PrefRules, PrefWorld, Value}
use Rattle.replay_run.proofs.keeping.BehindTurns.{line_of}
use Rattle.replay_run.proofs.keeping.ClientTurns.{ClientTurn, call, kept, knows, same_id, turned}
use Rattle.replay_run.proofs.keeping.DeathAnswers.{dead_answer, struck_answer}
use Rattle.replay_run.proofs.keeping.ExplainedTurns.{explains}
use Rattle.replay_run.proofs.keeping.OwnAnswers.{within_now}
use Rattle.replay_run.proofs.keeping.OwnEdits.{turn_carries}
use Rattle.replay_run.proofs.keeping.OwnNone.{no_restart}
use Rattle.replay_run.proofs.keeping.OwnSteps.{step_aside}
use Rattle.replay_run.proofs.keeping.OwnTurns.{adds_own, kinds_of, none_with_fault, prints_now}
use Rattle.replay_run.proofs.keeping.RowAnswers.{brings, brings_none, row_early, row_restarts, stands}
use Rattle.replay_run.proofs.keeping.StepsSpared.{SparedBy, row_spares}
use Rattle.replay_run.proofs.keeping.TurnCases.{TurnCase, Worked, dead, struck, turn_case, works}

module _ {r : PrefRules} {M : Type 0} {s : Store Value M} {state : RunState} (k : ClientTurn r s state) (reply : Reply Value) (turn : Turn r s (turned k) (Ended reply)) (answer : AnswerSeen) (tells : reply_told reply ≡ Some answer) where
  abbrev w : PrefWorld
  w = state.shared.world

  abbrev list_after : List PrefEntry
  list_after = k.w_after.history

  abbrev new : List PrefEntry
  new = entries_of (call k).id (kinds_of (turned k) turn.effect)

  adds : list_after ≡ w.history ++ new
  adds = adds_own r s (turned k) (Ended reply) turn

  abbrev IsTrueNow : Type 0
  IsTrueNow = IsTrueAnswer r s list_after k.client k.client.answered (line_of (call k).id answer)

  module _ (work : Worked r s (turned k) (Ended reply) turn) where
    -- an answer leaves no update of its call, unless that may stand
    leaves_none : may_stand answer ≡ false → list_any (is_own is_update (call k).id) list_after ≡ false
    leaves_none out =
        let ends : stands (gave_by turn.effect.next) ≡ false = subst (λ gave. stands gave ≡ false) turn.comes.given (rw (tells, out) refl) in
        let early = row_early r s w (call k).id work.row ends (kept k).entries in
        let more : list_any (is_own is_update (call k).id) new ≡ false =
        none_with_fault (is_own is_update (call k).id) (call k).id turn.effect.folder k.w_after.tally.count turn.effect.kinds (and_right (is_call (call k).id (call k).id) false refl) early.1 in
        rw adds (none_in_both (is_own is_update (call k).id) w.history new (no_update (call k).id w.history early.0) more)

    -- nor a Restart, unless it tells of one
    brings_nobody : is_restarted answer ≡ false → has_restart (call k).id list_after ≡ false
    brings_nobody out =
        let none : brings (gave_by turn.effect.next) ≡ false = subst (λ gave. brings gave ≡ false) turn.comes.given (brings_none reply answer tells out) in
        let more : list_any (is_own is_restart (call k).id) new ≡ false =
        none_with_fault (is_own is_restart (call k).id) (call k).id turn.effect.folder k.w_after.tally.count turn.effect.kinds (and_right (is_call (call k).id (call k).id) false refl)
        (row_restarts r s w (call k).id work.row (knows k work.lives).plan none) in
        rw adds (none_in_both (is_own is_restart (call k).id) w.history new (no_restart (call k).id w.history (call k).at (kept k).entries) more)

    -- nor is it one that a planned death would have struck
    spared : Spares s.deaths list_after (call k).id answer
    spared =
        let row : SparedBy r s w (call k).id s.deaths (w.history ++ new) (gave_by turn.effect.next) = row_spares r s w (call k).id s.deaths k.w_after.tally.count work.row (kept k).entries (kept k).spared (step_aside k work.unplanned) in
        let here : SparedBy r s w (call k).id s.deaths list_after (Ended reply) = subst (λ gave. SparedBy r s w (call k).id s.deaths list_after gave) (sym turn.comes.given) (rw adds row) in
        rw tells at here

    worked_answer : IsTrueNow
    worked_answer =
        record {
          act = (kept k).asked;
          asked = (kept k).at_it;
          call = (kept k).id;
          poster = refl;
          explained = let here = explains k reply turn work (kept k).asked (kept k).is_for in rw tells at here;
          late = IfSome_then (printed answer) (prints_now r s (turned k) reply turn work.row answer tells) (λ edition now. rw now (within_now k));
          none = leaves_none;
          carried = turn_carries r s (kept k).asked (turned k) (Ended reply) turn (kept k).entries (kept k).is_for;
          restarts = brings_nobody;
          spared = spared;
        }

  by_case : TurnCase r s (turned k) (Ended reply) turn → IsTrueNow
  by_case (dead died it) = dead_answer k reply turn answer tells died it
  by_case (struck lives planned is) = struck_answer k reply turn answer tells is
  by_case (works work) = worked_answer work

  -- whatever ends it
  pub new_answer : IsTrueAnswer r s list_after k.client k.client.answered (line_of k.takes.call_after.id answer)
  new_answer = subst (λ id. IsTrueAnswer r s list_after k.client k.client.answered (line_of id answer)) (sym (same_id k)) (by_case (turn_case r s (turned k) (Ended reply) turn))
