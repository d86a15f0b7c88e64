-- A session in progress: its clients, and what they share.
use Rattle.std.specs.Prelude.{ℕ, ◌+◌, Bool, List, length, Option, None, is_some, slice_get, unwrap_or}
use Rattle.store_traits.specs.declared.ids.CallId.{CallId}
use Rattle.store_traits.specs.declared.ids.ClientId.{ClientId}
use Rattle.store_traits.specs.declared.ids.NodeId.{NodeId}
use Rattle.prefs_text.specs.declared.seen.AnswerLineSeen.{AnswerLineSeen}
use Rattle.step_table.specs.Calls.{At, First, Gone, Read, Restarting, Update}
use Rattle.script_lang.specs.declared.plan.run_line.Act.{Act}
use Rattle.script_lang.specs.declared.plan.run_line.Act.TheVariants as act
use Rattle.replay_run.specs.Settings.{Change, PrefCached, PrefCall, PrefWorld, Value}

-- how many calls it was asked for in earlier sessions, what it is asked for in this one, the call that runs, and the lines that answer those before it
pub record Client : Type 0 where
  pub id : ClientId
  pub node : NodeId
  pub earlier : ℕ
  pub asked : List Act
  pub running : Option PrefCall
  pub answered : List AnswerLineSeen

-- the world, and what the cache of each node keeps, in the order of the nodes; mailboxes join with posts
pub record Shared : Type 0 where
  pub world : PrefWorld
  pub caches : List (Option PrefCached)

-- what a client's step finds and leaves of that: the world, and what the cache of its node keeps
pub record NodeView : Type 0 where
  pub world : PrefWorld
  pub kept : Option PrefCached

-- the clients stand in the order of their declaration
pub record RunState : Type 0 where
  pub shared : Shared
  pub clients : List Client

-- the call at this place among those that it is asked for, counted from 0
abbrev pub call_at : Client → ℕ → CallId
call_at client place = record { node = client.node; client = client.id; number = client.earlier + place + 1 }

-- what it is at: the first that has no answer
abbrev pub act_now : Client → Option Act
act_now client = slice_get client.asked (length client.answered)

-- it has something to do
abbrev pub is_busy : Client → Bool
is_busy client = is_some (act_now client)

-- the first step of what is asked for; flows and posts join with later work
abbrev pub first_at : Act → At Value Change
first_at (act.Update edit) = First (Update edit)
first_at act.Read = First Read
first_at (act.Restart node) = Restarting node
first_at other = Gone

-- the call of what it is at, before its first turn
abbrev pub new_call : Client → Act → PrefCall
new_call client asked = record { id = call_at client (length client.answered); at = first_at asked; since = None }

-- the call of what it is at, which begins where none runs
abbrev pub call_now : Client → Act → PrefCall
call_now client asked = unwrap_or client.running (new_call client asked)
