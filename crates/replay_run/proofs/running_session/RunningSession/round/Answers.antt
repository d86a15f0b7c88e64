use Rattle.std.proofs.Common.{◌≡◌, ◌∙◌, ◌<◌, length, refl, sym, subst, arith}
use Rattle.std.proofs.lemmas.List.{length-map}
use Rattle.replay_run.specs.Rounds.{StepsEach}
use Rattle.replay_run.specs.RunInvariant.{RunInvariant}
use Rattle.replay_run.specs.SessionView.{client_seen, rules_in, state_in, store_in}
use Rattle.replay_run.specs.Settings.{PrefStore}
use Rattle.replay_run.specs.Steps.{StepsAt}
use Rattle.replay_run.specs.WorkLeft.{RoundSoFar}
use Rattle.replay_run.proofs.session.SessionAsked.{few_on, place_on}
use Rattle.replay_run.proofs.work.RunLemmas.{each_more, each_none}
use Rattle.replay_run.proofs.work.WorkLemmas.{round_begins, round_falls, round_goes_on}
use Rattle.replay_run.proofs.running_session.RunningSession.round.Goals as goal

pub loop-place-init : goal.loop-place-init
loop-place-init c =
    let old = c.args.self.now in
    record {
      steps = each_none (rules_in old.shelf) (store_in old.shelf) 0 (state_in old);
      so_far = round_begins (rules_in old.shelf) (store_in old.shelf) (state_in old);
      on = record { keeps = c.requires.keeps; store = refl; asked = refl };
    }

pub go-requires-clause-keeps : goal.go-requires-clause-keeps
go-requires-clause-keeps c = c.loop-place.invariant.on.keeps

pub go-requires-clause-few : goal.go-requires-clause-few
go-requires-clause-few c = few_on 100000 c.args.self.now c.loop-place.self c.loop-place.invariant.on.asked c.requires.few

pub go-requires-clause-within : goal.go-requires-clause-within
go-requires-clause-within c =
    place_on c.args.self.now c.loop-place.self c.loop-place.place c.loop-place.invariant.on (subst (λ n. c.loop-place.place < n) c.len-place-end.ensures c.loop-place-test.true)

pub returns-in_err-go-clause-store : goal.returns-in_err-go-clause-store
returns-in_err-go-clause-store c = c.go.ensures.store ∙ c.loop-place.invariant.on.store

pub returns-in_err-go-clause-asked : goal.returns-in_err-go-clause-asked
returns-in_err-go-clause-asked c = c.go.ensures.asked ∙ c.loop-place.invariant.on.asked

pub loop-place-preserved : goal.loop-place-preserved
loop-place-preserved c =
    let old = c.args.self.now in
    let mid = c.loop-place.self in
    let new = c.go.new.self in
    let it = c.loop-place.invariant in
    let step = subst (λ (s : PrefStore). StepsAt (rules_in old.shelf) s c.loop-place.place (state_in mid) (state_in new)) it.on.store c.in_ok-go.ensures.steps in
    let keeps = subst (λ (s : PrefStore). RunInvariant (rules_in old.shelf) s (state_in mid)) it.on.store it.on.keeps.state in
    record {
      steps = each_more (rules_in old.shelf) (store_in old.shelf) c.loop-place.place (state_in old) (state_in mid) (state_in new) it.steps step;
      so_far = round_goes_on (rules_in old.shelf) (store_in old.shelf) (state_in old) c.loop-place.place (state_in mid) (state_in new) step keeps it.so_far;
      on = record { keeps = c.in_ok-go.ensures.keeps; store = c.go.ensures.store ∙ it.on.store; asked = c.go.ensures.asked ∙ it.on.asked };
    }

-- each client has had its step
all_went : (c : goal.After-loop-place) → c.loop-place.place ≡ length (state_in c.args.self.now).clients
all_went c =
    let old = c.args.self.now in
    let end : c.loop-place.place ≡ c.len-place-end.result = omega (arith, c.loop-place-test.false, c.loop-place.auto.place-end) in
    end ∙ (c.len-place-end.ensures ∙ (old.clients.ok.0 ∙ sym (length-map old.clients.items client_seen)))

pub returns-clause-round : goal.returns-clause-round
returns-clause-round c =
    let old = c.args.self.now in
    subst (λ n. StepsEach (rules_in old.shelf) (store_in old.shelf) 0 n (state_in old) (state_in c.loop-place.self)) (all_went c) c.loop-place.invariant.steps

pub returns-clause-falls : goal.returns-clause-falls
returns-clause-falls c =
    let old = c.args.self.now in
    round_falls (rules_in old.shelf) (store_in old.shelf) (state_in old) (state_in c.loop-place.self) c.requires.keeps.state
    (subst (λ n. RoundSoFar (store_in old.shelf).limits.file (state_in old) n (state_in c.loop-place.self)) (all_went c) c.loop-place.invariant.so_far)

pub returns-clause-keeps : goal.returns-clause-keeps
returns-clause-keeps c = c.loop-place.invariant.on.keeps

pub returns-clause-store : goal.returns-clause-store
returns-clause-store c = c.loop-place.invariant.on.store

pub returns-clause-asked : goal.returns-clause-asked
returns-clause-asked c = c.loop-place.invariant.on.asked
