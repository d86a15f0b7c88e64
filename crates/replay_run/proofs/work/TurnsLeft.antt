-- What a step leaves of the turns that clients have left, client by client.
use Rattle.std.proofs.Common.{◌≡◌, ◌≤◌, ◌+◌, ◌-◌, ◌*◌, ℕ, suc, zero, Bool, true, false, List, [], ◌∷◌, length, length-append, Option, Some, None, slice_get, slice_set, sum_by, refl, ap, arith}
use Rattle.std.proofs.lemmas.List.Sums.{sum_by-cons}
use Rattle.std.proofs.lemmas.Option.{slice_get_past}
use Rattle.store_traits.specs.declared.ids.NodeId.{NodeId}
use Rattle.hist_journal.specs.Nodes.{is_ready}
use Rattle.store_traits.specs.declared.ids.CallId.{CallId}
use Rattle.prefs_text.specs.declared.seen.AnswerSeen.{AnswerSeen}
use Rattle.shelf.proofs.Bools.{never}
use Rattle.step_table.specs.Calls.{At, First, Read, Update, is_first, is_gone}
use Rattle.node_core.specs.StepsLeft.{steps_left}
use Rattle.node_core.proofs.MovingLemmas.{has_left}
use Rattle.script_lang.specs.declared.plan.run_line.Act.{Act}
use Rattle.script_lang.specs.declared.plan.run_line.Act.TheVariants as act
use Rattle.replay_run.specs.Answering.{client_answered}
use Rattle.replay_run.specs.ClientInvariant.{IsForAct}
use Rattle.replay_run.specs.RunState.{Client, act_now, call_now}
use Rattle.replay_run.specs.Settings.{Change, PrefAsk, PrefCall, PrefWorld, Value}
use Rattle.replay_run.specs.WorkLeft.{call_left, client_left, turns_left}
use Rattle.replay_run.proofs.keeping.BehindTurns.{client_on}
use Rattle.replay_run.proofs.lists.OptionLemmas.{nothing, one_of}

-- a sum in which each part grows by so much at most, and one is another's
module _ {X : Type 0} (f g : X → ℕ) (more : ℕ) (within : (x : X) → g x ≤ f x + more) where
  sum_within : (xs : List X) → sum_by g xs ≤ sum_by f xs + length xs * more
  sum_within [] = omega arith
  sum_within (z ∷ zs) = rw (sum_by-cons g z zs, sum_by-cons f z zs) (omega (arith, within z, sum_within zs))

  pub sum_with : (xs : List X) (i : ℕ) (x y : X) → slice_get xs i ≡ Some y → sum_by g (slice_set xs i x) + f y + more ≤ sum_by f xs + length xs * more + g x
  sum_with [] i x y is = nothing y is
  sum_with (z ∷ zs) zero x y is = rw (sum_by-cons g x zs, sum_by-cons f z zs, one_of z y is) (omega (arith, sum_within zs))
  sum_with (z ∷ zs) (suc i) x y is = rw (sum_by-cons g z (slice_set zs i x), sum_by-cons f z zs) (omega (arith, within z, sum_with zs i x y is))

module _ (limit : ℕ) where
  -- at a first turn a call has fewer left if its node is ready
  pub left_least : (at : At Value Change) (a b : Bool) → (is_first at ≡ true → a ≡ true → b ≡ true) → steps_left limit b at ≤ steps_left limit a at
  left_least (First ask) true true so = omega arith
  left_least (First ask) true false so = never (so refl refl)
  left_least (First ask) false true so = omega arith
  left_least (First ask) false false so = omega arith
  left_least other a b so = omega arith

  -- by no more than what initialises it
  left_within : (at : At Value Change) (a b : Bool) → steps_left limit b at ≤ steps_left limit a at + 4
  left_within (First ask) true true = omega arith
  left_within (First ask) true false = omega arith
  left_within (First ask) false true = omega arith
  left_within (First ask) false false = omega arith
  left_within other a b = omega arith

  -- where a call has so many more left at most, so has its client
  client_within : (old new : PrefWorld) (more : ℕ) (client : Client) → ((call : PrefCall) → turns_left limit new client call ≤ turns_left limit old client call + more) → client_left limit new client ≤ client_left limit old client + more
  client_within old new more client within = by_act (act_now client)
    where
      by_act : (at : Option Act) → call_left limit new at client + (length client.asked - length client.answered - 1) * (limit + 12) ≤ call_left limit old at client + (length client.asked - length client.answered - 1) * (limit + 12) + more
      by_act (Some (act.Update edit)) = omega (arith, within (call_now client (act.Update edit)))
      by_act (Some act.Read) = omega (arith, within (call_now client act.Read))
      by_act other = omega arith

  -- as long as ready nodes stay so, no client has more left
  pub client_least : (old new : PrefWorld) → ((node : NodeId) → is_ready node old.history ≡ true → is_ready node new.history ≡ true) → (client : Client) → client_left limit new client ≤ client_left limit old client + 0
  client_least old new ready client =
      client_within old new 0 client
      (λ call. let least = left_least call.at (is_ready client.node old.history) (is_ready client.node new.history) (λ first. ready client.node) in omega (arith, least))

  -- whatever becomes of its node, it has four more at most
  pub client_most : (old new : PrefWorld) (client : Client) → client_left limit new client ≤ client_left limit old client + 4
  client_most old new client = client_within old new 4 client (λ call. left_within call.at (is_ready client.node old.history) (is_ready client.node new.history))

  first_most : (ask : PrefAsk) (ready : Bool) → steps_left {V = Value} limit ready (First ask) ≤ limit + 11
  first_most ask ready = left_least (First ask) false ready (λ first. never)

  -- a client that is at no call may have one more to begin
  call_most : (w : PrefWorld) (client : Client) (at : Option Act) → client.running ≡ None → call_left limit w at client ≤ limit + 12
  call_most w client (Some (act.Update edit)) idle = rw idle (omega (arith, first_most (Update edit) (is_ready client.node w.history)))
  call_most w client (Some act.Read) idle = rw idle (omega (arith, first_most Read (is_ready client.node w.history)))
  call_most w client other idle = omega arith

  rest_least : (first asked answered next : ℕ) → next ≡ answered + 1 → first ≤ limit + 12 → (asked ≤ next → first ≡ 0) → first + (asked - next - 1) * (limit + 12) ≤ (asked - answered - 1) * (limit + 12)
  rest_least first asked answered next one most past = by_rest (asked - answered - 1) refl
    where
      by_rest : (rest : ℕ) → asked - answered - 1 ≡ rest → first + (asked - next - 1) * (limit + 12) ≤ rest * (limit + 12)
      by_rest zero is =
          let none : asked - next - 1 ≡ 0 = omega (arith, is, one) in
          let last : first ≡ 0 = past (omega (arith, is, one)) in
          rw (none, last) omega arith
      by_rest (suc rest) is = let fewer : asked - next - 1 ≡ rest = omega (arith, is, one) in rw fewer (omega (arith, most))

  -- behind an answer there is left what is behind the call
  pub answered_left : (w : PrefWorld) (client : Client) (id : CallId) (answer : AnswerSeen) → client_left limit w (client_answered client id answer) ≤ (length client.asked - length client.answered - 1) * (limit + 12)
  answered_left w client id answer =
      let now = client_answered client id answer in
      rest_least (call_left limit w (act_now now) now) (length client.asked) (length client.answered) (length now.answered) (length-append client.answered (record { call = id; poster = None; answer = answer } ∷ [])) (call_most w now (act_now now) refl)
      (λ past. ap (λ at. call_left limit w at now) (slice_get_past client.asked (length now.answered) past))

  -- a call that runs has its turns at most, and no look
  pub running_left : (w : PrefWorld) (client : Client) (call : PrefCall) → is_gone call.at ≡ false → (asked : Act) → call_left limit w (Some asked) (client_on client call) ≤ turns_left limit w client call
  running_left w client call runs (act.Restart node) = has_left limit (is_ready client.node w.history) call.at runs
  running_left w client call runs other = omega arith

  -- the call that a client is at has its turns, and its look where that is still to come
  pub now_left : (w : PrefWorld) (client : Client) (asked : Act) → IsForAct (call_now client asked).id asked (call_now client asked).at w.history → turns_left limit w client (call_now client asked) ≤ call_left limit w (Some asked) client
  now_left w client (act.Update edit) is = omega arith
  now_left w client act.Read is = omega arith
  now_left w client (act.Restart node) is = rw is omega arith
  now_left w client other is = absurd is
