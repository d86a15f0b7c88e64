-- How many steps the clients have left at most, where none of them is blocked.
use Rattle.std.specs.Prelude.{◌≡◌, ◌⊎◌, ◌≤◌, ◌<◌, ℕ, ◌+◌, ◌-◌, ◌*◌, false, Option, Some, is_some, length, slice_get, sum_by, if◌then◌else◌}
use Rattle.store_traits.specs.declared.ids.CallId.{CallId}
use Rattle.hist_journal.specs.Nodes.{is_ready}
use Rattle.node_core.specs.Phases.{is_holding}
use Rattle.node_core.specs.StepsLeft.{steps_left}
use Rattle.script_lang.specs.declared.plan.run_line.Act.{Act}
use Rattle.script_lang.specs.declared.plan.run_line.Act.TheVariants as act
use Rattle.replay_run.specs.RunState.{Client, RunState, act_now, call_now, is_busy}
use Rattle.replay_run.specs.Settings.{PrefCall, PrefWorld}

-- `limit` is how many bytes main may have
module _ (limit : ℕ) where
  module _ (w : PrefWorld) where
    abbrev pub turns_left : Client → PrefCall → ℕ
    turns_left client call = steps_left limit (is_ready client.node w.history) call.at

    -- those of the call that the client is at; the look of a read is one more
    abbrev pub call_left : Option Act → Client → ℕ
    call_left (Some (act.Update edit)) client = turns_left client (call_now client (act.Update edit))
    call_left (Some act.Read) client = turns_left client (call_now client act.Read) + (if is_some client.running then 0 else 1)
    call_left (Some (act.Restart node)) client = 1
    call_left other client = 0

    -- a call behind it has as many as a read that has not looked
    abbrev pub client_left : Client → ℕ
    client_left client = call_left (act_now client) client + (length client.asked - length client.answered - 1) * (limit + 12)

  -- a death makes each client of its node initialise it once more, which is four turns, and is used up
  abbrev pub work_left : RunState → ℕ
  work_left state = sum_by (client_left state.shared.world) state.clients + length state.shared.world.deaths * (4 * length state.clients)

-- another owns the lock
pub record Waits (state : RunState) (client : Client) : Type 0 where
  pub owner : CallId
  pub owned : state.shared.world.owner ≡ Some owner
  pub holds_none : (call : PrefCall) → client.running ≡ Some call → is_holding call.at ≡ false

module _ (limit : ℕ) (start : RunState) where
  -- in a round from this state, so many clients have had their step, and nothing came of it
  pub record IsStill (place : ℕ) (now : RunState) : Type 0 where
    pub world : now.shared.world ≡ start.shared.world
    pub work : work_left limit now ≤ work_left limit start
    pub others : (other : ℕ) → place ≤ other → slice_get now.clients other ≡ slice_get start.clients other
    pub waited : (other : ℕ) (client : Client) → other < place → slice_get start.clients other ≡ Some client → (is_busy client ≡ false) ⊎ Waits start client

  -- what a round has come to
  abbrev pub RoundSoFar : ℕ → RunState → Type 0
  RoundSoFar place now = (work_left limit now < work_left limit start) ⊎ IsStill place now
