-- What a turn leaves of its own client: the call goes on, or a true line answers it.
use Rattle.std.proofs.Common.{◌≡◌, ◌∙◌, [], ◌∷◌, ◌++◌, false, refl, ap}
use Rattle.shelf.specs.declared.store.Store.{Store}
use Rattle.shelf.proofs.EachLemmas.{each_push}
use Rattle.step_table.specs.declared.progress.Progress.{Progress}
use Rattle.step_table.specs.Calls.{Reply, is_gone}
use Rattle.step_table.specs.Turn.{Turn}
use Rattle.node_core.proofs.KeepingLemmas.{turn_stays}
use Rattle.node_core.proofs.MovingLemmas.{moved_runs}
use Rattle.replay_run.specs.Answering.{client_answered}
use Rattle.replay_run.specs.ClientInvariant.{ClientInvariant, IsTrueAnswer}
use Rattle.replay_run.specs.RunState.{Client, RunState}
use Rattle.replay_run.specs.Settings.{PrefCall, PrefRules, Value}
use Rattle.replay_run.proofs.keeping.AnswerLemmas.{answers_same}
use Rattle.replay_run.proofs.keeping.BehindTurns.{Behind, behind, blocked, client_on, ended, line_of, moved}
use Rattle.replay_run.proofs.keeping.ClientTurns.{ClientTurn, kept, mine, turned}
use Rattle.replay_run.proofs.keeping.GoingCalls.{call_goes_on}
use Rattle.replay_run.proofs.keeping.NewAnswers.{new_answer}
use Rattle.replay_run.proofs.keeping.OwnAnswers.{still_true}

module _ {r : PrefRules} {M : Type 0} {s : Store Value M} {state : RunState} (k : ClientTurn r s state) where
  abbrev after : PrefCall
  after = k.takes.call_after

  client_goes_on : is_gone after.at ≡ false → ClientInvariant r s k.place k.w_after (client_on k.client after)
  client_goes_on goes_on =
      record {
        id = (mine k).id;
        running = call_goes_on k goes_on;
        answers = answers_same r s k.client (client_on k.client after) k.w_after.history k.client.answered refl refl refl (λ nth a is. is) (still_true k);
      }

  behind_by : (gave : Progress (Reply Value)) (c : Client) → Behind k.client after gave c → Turn r s (turned k) gave → ClientInvariant r s k.place k.w_after c
  behind_by gave c moved turn = client_goes_on (moved_runs r s (turned k) turn)
  behind_by gave c blocked turn = client_goes_on (ap (λ (c : PrefCall). is_gone c.at) (turn_stays r s (turned k) turn).1 ∙ (kept k).goes_on)
  behind_by gave c (ended {reply} {answer} tells) turn =
      let line = line_of after.id answer in
      record {
        id = (mine k).id;
        running = tt;
        answers =
            answers_same r s k.client (client_answered k.client after.id answer) k.w_after.history (k.client.answered ++ line ∷ []) refl refl refl (λ nth a is. is)
            (each_push (IsTrueAnswer r s k.w_after.history k.client) k.client.answered line (still_true k) (new_answer k reply turn answer tells));
      }

  pub client_behind : ClientInvariant r s k.place k.w_after k.now
  client_behind = behind_by k.takes.gave k.now (behind k.client after k.takes.gave k.now k.takes.now) k.takes.turn
