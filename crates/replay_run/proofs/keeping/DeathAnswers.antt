-- A call that a death ends is answered by it, and that tells the truth.
use Rattle.std.proofs.Common.{◌≡◌, ◌∙◌, ℕ, true, false, List, [], ◌∷◌, ◌++◌, Some, refl, sym, ap, subst}
use Rattle.std.proofs.lemmas.Bool.{and_right}
use Rattle.hist_journal.specs.declared.seen.KindSeen.TheVariants.{Death}
use Rattle.hist_journal.specs.Kinds.{is_call}
use Rattle.prefs_text.specs.EntryText.{PrefEntry}
use Rattle.prefs_text.specs.declared.seen.AnswerSeen.{AnswerSeen}
use Rattle.prefs_text.specs.declared.seen.AnswerSeen.TheVariants as seen
use Rattle.store_traits.specs.declared.update_error.UpdateError.TheVariants.{Died}
use Rattle.shelf.specs.declared.store.Store.{Store}
use Rattle.shelf.specs.Causes.{IsDead}
use Rattle.shelf.proofs.Bools.{never, one_more}
use Rattle.step_table.specs.declared.progress.Progress.{Progress}
use Rattle.step_table.specs.declared.progress.Progress.TheVariants.{Ended}
use Rattle.step_table.specs.Calls.{Failed, Reply}
use Rattle.step_table.specs.Turn.{EndsDead, Turn, dying, has_died_by}
use Rattle.step_table.specs.World.{begin, next_place}
use Rattle.step_table.proofs.Applying.{dead_turn_changes_nothing}
use Rattle.node_core.proofs.DeathCause.{dead_before, dead_now}
use Rattle.node_core.proofs.SilenceLemmas.{dying_silent}
use Rattle.script_lang.specs.GoodUpdates.{has_restart, is_restart}
use Rattle.script_lang.specs.declared.plan.run_line.Act.{Act}
use Rattle.script_lang.specs.declared.plan.run_line.Act.TheVariants as act
use Rattle.shelf.specs.Entries.{is_own}
use Rattle.shelf.proofs.DeathLemmas.{has_died-now}
use Rattle.replay_run.specs.Answering.{reply_told}
use Rattle.replay_run.specs.ClientInvariant.{IsExplained, IsForAct, IsTrueAnswer}
use Rattle.replay_run.specs.RunState.{RunState}
use Rattle.replay_run.specs.Settings.{PrefRules, PrefWorld, Value}
use Rattle.replay_run.proofs.keeping.BehindTurns.{line_of}
use Rattle.replay_run.proofs.keeping.ClientTurns.{ClientTurn, call, kept, turned}
use Rattle.replay_run.proofs.keeping.OwnAnswers.{shown}
use Rattle.replay_run.proofs.keeping.OwnEdits.{turn_carries}
use Rattle.replay_run.proofs.keeping.OwnNone.{no_restart}
use Rattle.replay_run.proofs.lists.OptionLemmas.{one_of}

module _ {r : PrefRules} {M : Type 0} {s : Store Value M} {state : RunState} (k : ClientTurn r s state) (reply : Reply Value) (turn : Turn r s (turned k) (Ended reply)) (answer : AnswerSeen) (tells : reply_told reply ≡ Some answer) where
  abbrev w : PrefWorld
  w = state.shared.world

  abbrev list_after : List PrefEntry
  list_after = k.w_after.history

  abbrev IsTrueNow : AnswerSeen → Type 0
  IsTrueNow answer = IsTrueAnswer r s list_after k.client k.client.answered (line_of (call k).id answer)

  -- the Death is the cause, whatever the call asks for
  explained_by : (asked : Act) (place : ℕ) → IsForAct (call k).id asked (call k).at w.history → IsDead (call k).id place list_after → IsExplained r s list_after (shown k) (call k).id asked (seen.Died place)
  explained_by (act.Update edit) place so it = it
  explained_by act.Read place so it = it
  explained_by (act.Restart node) place so it = it
  explained_by other place so it = absurd so

  told_place : (place : ℕ) → Ended reply ≡ Ended (Failed (Died place)) → answer ≡ seen.Died place
  told_place place gave =
      let same : reply ≡ Failed (Died place) = (let both : ◌≡◌ {A = Progress (Reply Value)} (Ended reply) (Ended (Failed (Died place))) = gave in cc) in
      one_of answer (seen.Died place) (sym tells ∙ ap reply_told same)

  true_death : (place : ℕ) → answer ≡ seen.Died place → IsDead (call k).id place list_after → has_restart (call k).id list_after ≡ false → IsTrueNow answer
  true_death place told it none =
      subst IsTrueNow (sym told)
      (record {
        act = (kept k).asked;
        asked = (kept k).at_it;
        call = (kept k).id;
        poster = refl;
        explained = explained_by (kept k).asked place (kept k).is_for it;
        late = tt;
        none = λ out. never (sym out);
        carried = turn_carries r s (kept k).asked (turned k) (Ended reply) turn (kept k).entries (kept k).is_for;
        restarts = λ out. none;
        spared = tt;
      })

  none_before : has_restart (call k).id w.history ≡ false
  none_before = no_restart (call k).id w.history (call k).at (kept k).entries

  -- its node had died before
  pub dead_answer : has_died_by (begin (turned k)) ≡ true → EndsDead (begin (turned k)) turn.effect → IsTrueNow answer
  dead_answer died it =
      let same : list_after ≡ w.history = ap (λ (w : PrefWorld). w.history) (dead_turn_changes_nothing r s (turned k) (Ended reply) turn died).world in
      let silent = (kept k).silent (sym (has_died-now (call k).id.node (call k).since w.history) ∙ died) in
      true_death it.place (told_place it.place (turn.comes.given ∙ rw it.is refl)) (rw same (dead_before (call k).id w.history it.place silent it.last)) (rw same none_before)

  -- or a planned death struck
  pub struck_answer : turn.effect ≡ dying (begin (turned k)) → IsTrueNow answer
  struck_answer is =
      let death : PrefEntry = record { who = (call k).id; kind = Death (call k).id.node } in
      let adds : list_after ≡ w.history ++ death ∷ [] = ap (λ (w : PrefWorld). w.history) turn.comes.world ∙ rw is refl in
      true_death (next_place w) (told_place (next_place w) (turn.comes.given ∙ rw is refl))
      (rw adds (dead_before (call k).id (w.history ++ death ∷ []) (next_place w) (dying_silent (call k).id w.history) (dead_now (call k).id w.history)))
      (rw adds (one_more (is_own is_restart (call k).id) w.history death none_before (and_right (is_call (call k).id (call k).id) false refl)))
