-- Clients at the start of a session.
use Rattle.std.specs.Prelude.{◌≡◌, ◌≤◌, All, List, [], None, map, vec_len}
use Rattle.store_traits.specs.declared.ids.NodeId.{NodeId}
use Rattle.replay_run.specs.declared.client.Client as own
use Rattle.replay_run.specs.SessionView.{client_seen}
use Rattle.replay_run.specs.Start.{new_clients}

-- there is a new client for each of these nodes
pub record AreNew (homes : List NodeId) (clients : List own.Client) : Type 0 where
  pub seen : map client_seen clients ≡ new_clients [] homes
  pub rest : All (λ client. client.running ≡ None) clients
  pub unasked : All (λ client. vec_len client.asked ≤ 0) clients
