-- What contracts see of a session in progress: its state.
use Rattle.std.specs.Prelude.{◌≡◌, true, false, List, map, IfSome, option_map}
use Rattle.store_traits.specs.declared.ids.NodeId.{NodeId}
use Rattle.store_traits.specs.declared.codec.Codec as codec_trait
use Rattle.store_traits.specs.declared.transform.Transform as transform_trait
use Rattle.folder_disk.specs.declared.folder.Folder as folder_trait
use Rattle.prefs_proto.specs.declared.prefs_codec.PrefsCodec.{PrefsCodec}
use Rattle.prefs_text.specs.AnswerView.{line_seen}
use Rattle.script_lang.specs.declared.plan.run_line.Act.{Act}
use Rattle.script_lang.specs.declared.plan.run_line.Act.TheVariants as act
use Rattle.shelf.specs.declared.shelf.Shelf.{Shelf}
use Rattle.shelf.specs.AddsNode.{is_among}
use Rattle.shelf.specs.Deaths.{died_since}
use Rattle.shelf.specs.ShelfSeen.{shelf_seen}
use Rattle.node_core.specs.Ready.{Equipped, rules_seen}
use Rattle.node_core.specs.Views.{call_seen, read_seen, state_seen, world_seen}
use Rattle.value_cache.specs.declared.cache.Cache.{Cache}
use Rattle.value_cache.specs.Cached.{kept_seen}
use Rattle.replay_run.specs.declared.client.Client as own
use Rattle.replay_run.specs.declared.prefs_parts.PrefsParts.{PrefsParts}
use Rattle.replay_run.specs.declared.running.Running.{Running}
use Rattle.replay_run.specs.declared.running.Running.TheVariants as running
use Rattle.replay_run.specs.declared.running_session.RunningSession.{RunningSession}
use Rattle.replay_run.specs.declared.task.Task.{Task}
use Rattle.replay_run.specs.declared.task.Task.TheVariants as task
use Rattle.replay_run.specs.RunState.{Client, NodeView, RunState}
use Rattle.replay_run.specs.Settings.{Change, PrefCall, PrefRules, PrefStore, PrefWorld, ScriptFolder, Value}

abbrev pub running_seen : Running → PrefCall
running_seen (running.Update call) = call_seen call.origin (state_seen call.state)
running_seen (running.Read call) = call_seen call.origin (read_seen call.state)

abbrev pub task_seen : Task → Act
task_seen (task.Update edit) = act.Update edit.now
task_seen task.Read = act.Read
task_seen (task.Restart node) = act.Restart node

-- what is asked for names nodes of the store alone
abbrev pub IsNamed : List NodeId → Task → Type 0
IsNamed nodes (task.Restart node) = is_among node nodes ≡ true
IsNamed nodes other = Unit {0}

-- it is asked for nothing in earlier sessions, as there are none yet
abbrev pub client_seen : own.Client → Client
client_seen client =
    record {
      id = client.id;
      node = client.node;
      earlier = 0;
      asked = map task_seen client.asked.items;
      running = option_map running_seen client.running;
      answered = map line_seen client.answered.items;
    }

module _ {c : codec_trait.Ghosts PrefsCodec Value} {t : transform_trait.Ghosts Change Value} {f : folder_trait.Ghosts ScriptFolder} where
  abbrev pub rules_in : Shelf (PrefsParts ScriptFolder) PrefsCodec Change ScriptFolder Value c t f → PrefRules
  rules_in shelf = rules_seen c t f (shelf_seen shelf)

  abbrev pub store_in : Shelf (PrefsParts ScriptFolder) PrefsCodec Change ScriptFolder Value c t f → PrefStore
  store_in shelf = (shelf_seen shelf).store

  abbrev pub world_in : Shelf (PrefsParts ScriptFolder) PrefsCodec Change ScriptFolder Value c t f → PrefWorld
  world_in shelf = world_seen f (shelf_seen shelf)

  -- what a step of a client finds, whose node has this cache
  abbrev pub view_in : Shelf (PrefsParts ScriptFolder) PrefsCodec Change ScriptFolder Value c t f → Cache Value → NodeView
  view_in shelf cache = record { world = world_in shelf; kept = kept_seen cache }

  -- there is room for what the call is still to write, as long as its node has not died
  abbrev pub IsEquipped : Shelf (PrefsParts ScriptFolder) PrefsCodec Change ScriptFolder Value c t f → Running → Type 0
  IsEquipped shelf call = died_since (running_seen call).id.node (running_seen call).since (shelf_seen shelf).list ≡ false → Equipped c t f (running_seen call).at (shelf_seen shelf)

  abbrev pub EquippedIn : Shelf (PrefsParts ScriptFolder) PrefsCodec Change ScriptFolder Value c t f → own.Client → Type 0
  EquippedIn shelf client = IfSome client.running (IsEquipped shelf)

abbrev pub state_in : RunningSession → RunState
state_in session =
    record {
      shared = record { world = world_in session.shelf; caches = map kept_seen session.caches.items };
      clients = map client_seen session.clients.items;
    }
