-- One step of a client, by what it is at.
use Rattle.std.specs.Prelude.{◌≡◌, ℕ, List, length, Option, Some, None, option_map, slice_get, slice_set}
use Rattle.store_traits.specs.declared.ids.NodeId.{NodeId}
use Rattle.prefs_text.specs.declared.seen.AnswerSeen.{AnswerSeen}
use Rattle.prefs_text.specs.declared.seen.AnswerSeen.TheVariants as seen
use Rattle.script_lang.specs.declared.plan.run_line.Act.{Act}
use Rattle.script_lang.specs.declared.plan.run_line.Act.TheVariants as act
use Rattle.shelf.specs.declared.store.Store.{Store}
use Rattle.step_table.specs.Caching.{found, published_by}
use Rattle.step_table.specs.Calls.{Reply}
use Rattle.step_table.specs.Effects.{SparesFolder}
use Rattle.step_table.specs.Turn.{Turn}
use Rattle.step_table.specs.declared.progress.Progress.{Progress}
use Rattle.value_cache.specs.Cached.{published}
use Rattle.replay_run.specs.Answering.{behind_look, behind_turn}
use Rattle.replay_run.specs.RunState.{Client, NodeView, RunState, act_now, call_now}
use Rattle.replay_run.specs.Settings.{PrefCached, PrefCall, PrefRules, Value}

-- what a cache keeps, once this is published to it
abbrev pub kept_behind : Option PrefCached → Option PrefCached → Option PrefCached
kept_behind kept None = kept
kept_behind kept (Some new) = published kept new

-- what a step answered, if it did
abbrev pub answer_given : Client → Client → Option AnswerSeen
answer_given client client_after = option_map (λ line. line.answer) (slice_get client_after.answered (length client.answered))

-- the node of a restart that was done
abbrev pub restarted_by : Option Act → Option AnswerSeen → Option NodeId
restarted_by (Some (act.Restart node)) (Some (seen.Restarted place)) = Some node
restarted_by asked answer = None

abbrev pub brought_back : Client → Client → Option NodeId
brought_back client client_after = restarted_by (act_now client) (answer_given client client_after)

-- a node that is brought back has an empty cache
abbrev pub emptied : Option NodeId → List (Option PrefCached) → List (Option PrefCached)
emptied None caches = caches
emptied (Some node) caches = slice_set caches node.0 None

module _ (r : PrefRules) {M : Type 0} (s : Store Value M) where
  -- The call of the client takes a turn, and what that publishes goes to the cache. Of one that is answered for want of memory
  -- there is no client behind it
  pub record TakesTurn (call : PrefCall) (client : Client) (view : NodeView) (client_after : Client) (view_after : NodeView) : Type 0 where
    pub call_after : PrefCall
    pub gave : Progress (Reply Value)
    pub turn : Turn r s (record { world = view.world; call = call; world_after = view_after.world; call_after = call_after }) gave
    pub spares : SparesFolder turn.effect.folder view.world view_after.world
    pub now : behind_turn client call_after gave ≡ Some client_after
    pub kept : view_after.kept ≡ kept_behind view.kept (published_by call.at gave view_after.world)

  -- a read that has not begun looks in the cache first
  pub record Looks (client : Client) (view : NodeView) (client_after : Client) (view_after : NodeView) : Type 0 where
    pub now : client_after ≡ behind_look client (found view.kept view.world.version)
    pub same : view_after ≡ view

  abbrev pub ReadSteps : Option PrefCall → Client → NodeView → Client → NodeView → Type 0
  ReadSteps None = Looks
  ReadSteps (Some call) = TakesTurn call

  -- A turn, a look, or nothing where there is nothing to do. A post and a job that an actor takes join with later work
  abbrev pub StepsBy : Option Act → Client → NodeView → Client → NodeView → Type 0
  StepsBy (Some (act.Update edit)) client view client_after view_after = TakesTurn (call_now client (act.Update edit)) client view client_after view_after
  StepsBy (Some (act.Restart node)) client view client_after view_after = TakesTurn (call_now client (act.Restart node)) client view client_after view_after
  StepsBy (Some act.Read) client view client_after view_after = ReadSteps client.running client view client_after view_after
  StepsBy (Some other) client view client_after view_after = ⊥
  StepsBy None client view client_after view_after = (client_after ≡ client) × (view_after ≡ view)

  abbrev pub ClientSteps : Client → NodeView → Client → NodeView → Type 0
  ClientSteps client = StepsBy (act_now client) client

  -- the client at this place, counted from 0, does a step if it has something to do; the others stay as they are, and so do the caches of other nodes, but that of a node that was brought back
  pub record StepsAt (place : ℕ) (old new : RunState) : Type 0 where
    pub client : Client
    pub client_after : Client
    pub kept : Option PrefCached
    pub kept_after : Option PrefCached
    pub was : slice_get old.clients place ≡ Some client
    pub cache : slice_get old.shared.caches client.node.0 ≡ Some kept
    pub steps : ClientSteps client (record { world = old.shared.world; kept = kept }) client_after (record { world = new.shared.world; kept = kept_after })
    pub caches : new.shared.caches ≡ emptied (brought_back client client_after) (slice_set old.shared.caches client.node.0 kept_after)
    pub now : new.clients ≡ slice_set old.clients place client_after
