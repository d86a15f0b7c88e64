-- What a step leaves of its client.
use Rattle.std.proofs.Common.{◌≡◌, ◌≤◌, ◌+◌, is_some, if◌then◌else◌, [], ◌∷◌, length, length-append, Option, Some, None, option_map, refl, arith}
use Rattle.store_traits.specs.declared.ids.CallId.{CallId}
use Rattle.prefs_text.specs.declared.seen.AnswerLineSeen.{AnswerLineSeen}
use Rattle.prefs_text.specs.declared.seen.AnswerSeen.{AnswerSeen}
use Rattle.prefs_text.specs.declared.seen.AnswerSeen.TheVariants as seen
use Rattle.step_table.specs.Calls.{Reply}
use Rattle.step_table.specs.declared.progress.Progress.{Progress}
use Rattle.step_table.specs.declared.progress.Progress.TheVariants.{Moved, Blocked, Ended}
use Rattle.script_lang.specs.declared.plan.run_line.Act.TheVariants as act
use Rattle.replay_run.specs.Answering.{behind_look, behind_turn, client_answered, reply_told}
use Rattle.replay_run.specs.RunInvariant.{begun}
use Rattle.replay_run.specs.RunState.{Client, new_call}
use Rattle.replay_run.specs.Settings.{PrefCached, PrefCall, Value}
use Rattle.replay_run.proofs.lists.OptionLemmas.{nothing, one_of}

abbrev pub line_of : CallId → AnswerSeen → AnswerLineSeen
line_of call answer = record { call = call; poster = None; answer = answer }

abbrev pub client_on : Client → PrefCall → Client
client_on client call = record client { running = Some call }

-- the call goes on, or a line answers it
pub data Behind (client : Client) (call : PrefCall) : Progress (Reply Value) → Client → Type 0 where
  moved : Behind client call Moved (client_on client call)
  blocked : Behind client call Blocked (client_on client call)
  ended : {reply : Reply Value} {answer : AnswerSeen} → reply_told reply ≡ Some answer → Behind client call (Ended reply) (client_answered client call.id answer)

module _ (client : Client) (call : PrefCall) where
  ended_by : (reply : Reply Value) (told : Option AnswerSeen) (now : Client) → reply_told reply ≡ told → option_map (client_answered client call.id) told ≡ Some now → Behind client call (Ended reply) now
  ended_by reply None now tells is = nothing now is
  ended_by reply (Some answer) now tells is = rw (← one_of (client_answered client call.id answer) now is) (ended tells)

  pub behind : (gave : Progress (Reply Value)) (now : Client) → behind_turn client call gave ≡ Some now → Behind client call gave now
  behind Moved now is = rw (← one_of (client_on client call) now is) moved
  behind Blocked now is = rw (← one_of (client_on client call) now is) blocked
  behind (Ended reply) now is = ended_by reply (reply_told reply) now refl is

pub at_most_one : (client : Client) → begun client ≤ length client.answered + 1
at_most_one client = by_running client.running
  where
    by_running : (running : Option PrefCall) → length client.answered + (if is_some running then 1 else 0) ≤ length client.answered + 1
    by_running None = omega arith
    by_running (Some call) = omega arith

-- it leaves the client what it is, and the call has begun
pub record IsSameClient (client now : Client) : Type 0 where
  pub id : now.id ≡ client.id
  pub node : now.node ≡ client.node
  pub earlier : now.earlier ≡ client.earlier
  pub asked : now.asked ≡ client.asked
  pub begun : begun now ≡ length client.answered + 1

pub behind_same : {client : Client} {call : PrefCall} (gave : Progress (Reply Value)) (now : Client) → Behind client call gave now → IsSameClient client now
behind_same gave now moved = record { id = refl; node = refl; earlier = refl; asked = refl; begun = refl }
behind_same gave now blocked = record { id = refl; node = refl; earlier = refl; asked = refl; begun = refl }
behind_same {client} {call} gave now (ended {answer = answer} tells) =
    record { id = refl; node = refl; earlier = refl; asked = refl; begun = let more = length-append client.answered (line_of call.id answer ∷ []) in omega (arith, more) }

-- so does the look of a read that has not begun
pub look_same : (client : Client) (found : Option PrefCached) → IsSameClient client (behind_look client found)
look_same client None = record { id = refl; node = refl; earlier = refl; asked = refl; begun = refl }
look_same client (Some kept) =
    record { id = refl; node = refl; earlier = refl; asked = refl; begun = let more = length-append client.answered (line_of (new_call client act.Read).id (seen.Read kept.edition kept.value) ∷ []) in omega (arith, more) }
