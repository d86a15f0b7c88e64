-- What one client's step asks for, and what it is made of.
use Rattle.std.specs.Prelude.{◌≡◌, ◌⊎◌, ℕ, true, false, All, Option, Some, None, length}
use Rattle.std.specs.List.{list_any}
use Rattle.store_traits.specs.declared.codec.Codec as codec_trait
use Rattle.store_traits.specs.declared.ids.CallId.{CallId}
use Rattle.store_traits.specs.declared.ids.NodeId.{NodeId}
use Rattle.store_traits.specs.declared.transform.Transform as transform_trait
use Rattle.folder_disk.specs.declared.folder.Folder as folder_trait
use Rattle.prefs_proto.specs.declared.prefs_codec.PrefsCodec.{PrefsCodec}
use Rattle.prefs_text.specs.AnswerView.{line_seen}
use Rattle.prefs_text.specs.declared.answer_line.AnswerLine.{AnswerLine}
use Rattle.shelf.specs.AddsNode.{is_among}
use Rattle.shelf.specs.declared.shelf.Shelf.{Shelf}
use Rattle.shelf.specs.CallOrder.{is_later}
use Rattle.shelf.specs.Deaths.{died_since}
use Rattle.shelf.specs.Meanwhile.{NoneOf}
use Rattle.shelf.specs.ShelfSeen.{shelf_seen}
use Rattle.node_core.specs.Step.{KeepsRoom}
use Rattle.script_lang.specs.declared.plan.run_line.Act.{Act}
use Rattle.script_lang.specs.declared.plan.run_line.Act.TheVariants as act
use Rattle.step_table.specs.Calls.{Reply}
use Rattle.step_table.specs.declared.progress.Progress.TheVariants.{Ended}
use Rattle.replay_run.specs.declared.client.Client as own
use Rattle.replay_run.specs.declared.prefs_parts.PrefsParts.{PrefsParts}
use Rattle.replay_run.specs.declared.running.Running.{Running}
use Rattle.replay_run.specs.Answering.{behind_turn, reply_told}
use Rattle.replay_run.specs.ClientInvariant.{CallInvariant}
use Rattle.replay_run.specs.RunState.{act_now, call_at, call_now, new_call}
use Rattle.replay_run.specs.SessionView.{EquippedIn, IsEquipped, IsNamed, client_seen, rules_in, running_seen, store_in, world_in}
use Rattle.replay_run.specs.Settings.{Change, PrefCached, PrefCall, ScriptFolder, Value}
use Rattle.replay_run.specs.Steps.{TakesTurn}

-- the line tells this reply to a client's call
pub record AnswersBy (id : CallId) (reply : Reply Value) (line : AnswerLine) : Type 0 where
  pub call : line.call ≡ id
  pub poster : line.poster ≡ None
  pub told : reply_told reply ≡ Some (line_seen line).answer

-- the call behind those that are answered
abbrev pub next_call : own.Client → CallId
next_call client = call_at (client_seen client) (length (client_seen client).answered)

-- its next answer tells this reply
abbrev pub IsAnswered : own.Client → Reply Value → own.Client → Type 0
IsAnswered old reply new = (call : PrefCall) → call.id ≡ next_call old → behind_turn (client_seen old) call (Ended reply) ≡ Some (client_seen new)

module _ {c : codec_trait.Ghosts PrefsCodec Value} {t : transform_trait.Ghosts Change Value} {f : folder_trait.Ghosts ScriptFolder} where
  -- the call that the client is at may take its turn
  pub record MayGo (client : own.Client) (shelf : Shelf (PrefsParts ScriptFolder) PrefsCodec Change ScriptFolder Value c t f) : Type 0 where
    pub node : is_among client.node (store_in shelf).nodes ≡ true
    pub call : (asked : Act) → act_now (client_seen client) ≡ Some asked → CallInvariant (rules_in shelf) (store_in shelf) (client_seen client) (world_in shelf) (call_now (client_seen client) asked)
    -- of a call that has not begun, nothing was told
    pub untold : client.running ≡ None → NoneOf (next_call client) (shelf_seen shelf).list
    pub named : All (IsNamed (store_in shelf).nodes) client.asked.items
    pub equipped : EquippedIn shelf client

  -- the client has put aside the call that it is at, which may take its turn
  pub record MayTurn (client : own.Client) (call : Running) (shelf : Shelf (PrefsParts ScriptFolder) PrefsCodec Change ScriptFolder Value c t f) : Type 0 where
    pub idle : client.running ≡ None
    pub node : is_among client.node (store_in shelf).nodes ≡ true
    pub its : CallInvariant (rules_in shelf) (store_in shelf) (client_seen client) (world_in shelf) (running_seen call)
    pub equipped : IsEquipped shelf call

  -- the client may bring this node back by its next call, of which nothing was told
  pub record MayRestart (client : own.Client) (back : NodeId) (shelf : Shelf (PrefsParts ScriptFolder) PrefsCodec Change ScriptFolder Value c t f) : Type 0 where
    pub idle : client.running ≡ None
    pub node : is_among client.node (store_in shelf).nodes ≡ true
    pub named : is_among back (store_in shelf).nodes ≡ true
    pub untold : NoneOf (next_call client) (shelf_seen shelf).list
    pub numbers : list_any (is_later (next_call client)) (shelf_seen shelf).list ≡ false

  -- it did so in one turn, which leaves what a cache keeps
  abbrev pub Restarts : NodeId → own.Client → Shelf (PrefsParts ScriptFolder) PrefsCodec Change ScriptFolder Value c t f → Option PrefCached → own.Client → Shelf (PrefsParts ScriptFolder) PrefsCodec Change ScriptFolder Value c t f → Type 0
  Restarts back old shelf kept new shelf_after =
      TakesTurn (rules_in shelf) (store_in shelf) (new_call (client_seen old) (act.Restart back)) (client_seen old) (record { world = world_in shelf; kept = kept }) (client_seen new) (record { world = world_in shelf_after; kept = kept })

  -- where a call of another client owns the lock, what is kept for that stays, unless its node died
  abbrev pub Spares : own.Client → (old new : Shelf (PrefsParts ScriptFolder) PrefsCodec Change ScriptFolder Value c t f) → Type 0
  Spares client old new =
      (other : CallId) → (shelf_seen old).owner ≡ Some other → ((place : ℕ) → other ≡ call_at (client_seen client) place → ⊥)
      → KeepsRoom c t f (shelf_seen old) (shelf_seen new) ⊎ (died_since other.node (Some (length (shelf_seen old).list)) (shelf_seen new).list ≡ true)
