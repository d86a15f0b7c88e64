-- What holds of a session between the steps of its clients.
use Rattle.std.specs.Prelude.{◌≡◌, ◌≤◌, ◌<◌, ℕ, true, All, map, vec_len}
use Rattle.store_traits.specs.declared.ids.NodeId.{NodeId}
use Rattle.hist_journal.specs.Folds.{raises_of}
use Rattle.shelf.specs.AddsNode.{is_among}
use Rattle.shelf.specs.ShelfSeen.{shelf_seen}
use Rattle.replay_run.specs.declared.running_session.RunningSession.{RunningSession}
use Rattle.replay_run.specs.RunInvariant.{RunInvariant}
use Rattle.replay_run.specs.SessionView.{EquippedIn, IsNamed, rules_in, state_in, store_in}

pub record SessionInvariant (session : RunningSession) : Type 0 where
  pub state : RunInvariant (rules_in session.shelf) (store_in session.shelf) (state_in session)
  pub number : session.word ≡ raises_of (shelf_seen session.shelf).list
  pub nodes : All (λ client. is_among client.node (store_in session.shelf).nodes ≡ true) session.clients.items
  -- each node has a cache
  pub places : (node : NodeId) → is_among node (store_in session.shelf).nodes ≡ true → node.0 < vec_len session.caches
  pub named : All (λ client. All (IsNamed (store_in session.shelf).nodes) client.asked.items) session.clients.items
  pub equipped : All (λ client. EquippedIn session.shelf client) session.clients.items

-- no client is asked for more calls than this
abbrev pub AsksFew : ℕ → RunningSession → Type 0
AsksFew most session = All (λ client. vec_len client.asked ≤ most) session.clients.items

-- the clients are asked for what they were asked for
abbrev pub AskedAlike : RunningSession → RunningSession → Type 0
AskedAlike old new = map (λ client. client.asked) new.clients.items ≡ map (λ client. client.asked) old.clients.items
