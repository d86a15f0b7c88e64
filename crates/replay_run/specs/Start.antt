-- How a session starts.
use Rattle.std.specs.Prelude.{ℕ, true, List, [], map, count_by, None}
use Rattle.std.specs.List.{enumerate_from}
use Rattle.store_traits.specs.declared.ids.NodeId.{NodeId}
use Rattle.folder_disk.specs.MemFolder.{fresh_contents}
use Rattle.folder_disk.specs.Tally.{Tally}
use Rattle.script_lang.specs.Asked.{Asked}
use Rattle.script_lang.specs.GoodAnswers.{is_asked_of}
use Rattle.shelf.specs.declared.store.Store.{Store}
use Rattle.replay_run.specs.RunState.{Client, RunState}
use Rattle.replay_run.specs.Settings.{PrefWorld, Value}

-- a client of this node at this place, before it is asked for anything; those calls were asked for in earlier sessions
abbrev pub new_client : (before : List Asked) → ℕ → NodeId → Client
new_client before place node = record { id = record { 0 = place }; node = node; earlier = count_by (is_asked_of place) before; asked = []; running = None; answered = [] }

abbrev pub new_clients : (before : List Asked) → List NodeId → List Client
new_clients before homes = map (λ placed. new_client before placed.0 placed.1) (enumerate_from 0 homes)

-- the world in which a session of the store starts: the folder tells what it holds and spares it where a call fails, it holds main alone, the tally tells what is to fail, and nothing has happened yet
abbrev pub world_of : Tally → {M : Type 0} → Store Value M → PrefWorld
world_of tally s = record { told = true; spares = true; folder = fresh_contents s.main; sections = s.sections; owner = None; history = []; deaths = s.deaths; version = 0; tally = tally }

-- the state in which it starts with clients of these nodes; no cache keeps anything
abbrev pub start_of : (before : List Asked) → Tally → {M : Type 0} → Store Value M → List NodeId → RunState
start_of before tally s homes = record { shared = record { world = world_of tally s; caches = map (λ node. None) s.nodes }; clients = new_clients before homes }
