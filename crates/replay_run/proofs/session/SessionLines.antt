-- A client of a session is asked for one more call.
use Rattle.std.proofs.Common.{◌≡◌, ◌∙◌, ℕ, true, All, [], ◌∷◌, ◌++◌, map, Some, slice_get, slice_set, refl, sym, ap, subst}
use Rattle.std.specs.Vec.{with_item}
use Rattle.std.proofs.lemmas.List.{map_push}
use Rattle.std.proofs.lemmas.List.Elements.{All-push}
use Rattle.shelf.specs.AddsNode.{is_among}
use Rattle.replay_run.specs.declared.client.Client as own
use Rattle.replay_run.specs.declared.running_session.RunningSession.{RunningSession}
use Rattle.replay_run.specs.declared.task.Task.{Task}
use Rattle.replay_run.specs.Lines.{Asks, with_act}
use Rattle.replay_run.specs.SessionInvariant.{SessionInvariant}
use Rattle.replay_run.specs.SessionView.{EquippedIn, IsNamed, client_seen, rules_in, state_in, store_in, task_seen}
use Rattle.replay_run.proofs.keeping.CallKept.{asks_keep}
use Rattle.replay_run.proofs.lists.SetViews.{all_found, all_set}
use Rattle.replay_run.proofs.session.SessionTurns.{clients_now, seen_at}

module _ (session : RunningSession) (place : ℕ) (client after : own.Client) (task : Task) (found : slice_get session.clients.items place ≡ Some client) (same : after ≡ record client { asked = after.asked })
    (asked : after.asked.items ≡ client.asked.items ++ task ∷ []) where
  abbrev now : RunningSession
  now = record session { clients = with_item session.clients place after }

  after_seen : client_seen after ≡ with_act (task_seen task) (client_seen client)
  after_seen =
      ap client_seen same ∙ ap (λ list. record (client_seen client) { asked = list }) (ap (map task_seen) asked ∙ map_push task_seen client.asked.items task)

  pub asks_now : Asks place (task_seen task) (state_in session) (state_in now)
  asks_now =
      record {
        client = client_seen client;
        was = seen_at session place client found;
        now = ap (λ list. record (state_in session) { clients = list }) (clients_now session now place client after found refl ∙ ap (λ x. slice_set (state_in session).clients place x) after_seen);
      }

  pub asking_keeps : SessionInvariant session → IsNamed (store_in session.shelf).nodes task → SessionInvariant now
  asking_keeps keeps names =
      record {
        state = asks_keep (rules_in session.shelf) (store_in session.shelf) place (task_seen task) (state_in session) (state_in now) asks_now keeps.state;
        number = keeps.number;
        nodes =
            all_set (λ (x : own.Client). is_among x.node (store_in session.shelf).nodes ≡ true) session.clients.items place after
            (ap (λ (x : own.Client). is_among x.node (store_in session.shelf).nodes) same ∙ all_found (λ (x : own.Client). is_among x.node (store_in session.shelf).nodes ≡ true) session.clients.items place client found keeps.nodes)
            (λ other x away is. all_found (λ (x : own.Client). is_among x.node (store_in session.shelf).nodes ≡ true) session.clients.items other x is keeps.nodes);
        places = keeps.places;
        named =
            all_set (λ (x : own.Client). All (IsNamed (store_in session.shelf).nodes) x.asked.items) session.clients.items place after
            (rw asked (All-push (IsNamed (store_in session.shelf).nodes) client.asked.items task (all_found (λ (x : own.Client). All (IsNamed (store_in session.shelf).nodes) x.asked.items) session.clients.items place client found keeps.named) names))
            (λ other x away is. all_found (λ (x : own.Client). All (IsNamed (store_in session.shelf).nodes) x.asked.items) session.clients.items other x is keeps.named);
        equipped =
            all_set (λ x. EquippedIn session.shelf x) session.clients.items place after
            (subst (λ (x : own.Client). EquippedIn session.shelf x) (sym same) (all_found (λ x. EquippedIn session.shelf x) session.clients.items place client found keeps.equipped))
            (λ other x away is. all_found (λ x. EquippedIn session.shelf x) session.clients.items other x is keeps.equipped);
      }
