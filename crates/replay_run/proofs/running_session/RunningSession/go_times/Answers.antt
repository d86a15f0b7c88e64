use Rattle.std.proofs.Common.{◌≡◌, ◌∙◌, false, refl, sym, subst, vec_len}
use Rattle.std.proofs.lemmas.Option.{slice_get_read}
use Rattle.replay_run.specs.RunState.{is_busy}
use Rattle.replay_run.specs.SessionView.{client_seen, rules_in, state_in, store_in}
use Rattle.replay_run.specs.Settings.{PrefStore}
use Rattle.replay_run.specs.Steps.{StepsAt}
use Rattle.replay_run.proofs.session.SessionAsked.{few_on, place_on}
use Rattle.replay_run.proofs.session.SessionTurns.{at_home, seen_at}
use Rattle.replay_run.proofs.work.RunLemmas.{rests, times_more, times_none, times_up_to}
use Rattle.replay_run.proofs.running_session.RunningSession.go_times.Goals as goal

pub loop-step-init : goal.loop-step-init
loop-step-init c =
    let old = c.args.self.now in
    record { steps = times_none (rules_in old.shelf) (store_in old.shelf) c.args.place (state_in old); on = record { keeps = c.requires.keeps; store = refl; asked = refl } }

pub go-requires-clause-few : goal.go-requires-clause-few
go-requires-clause-few c = few_on 100000 c.args.self.now c.loop-step.self c.loop-step.invariant.on.asked c.requires.few

pub loop-step-preserved : goal.loop-step-preserved
loop-step-preserved c =
    let old = c.args.self.now in
    let mid = c.loop-step.self in
    let new = c.go.new.self in
    let on = c.loop-step.invariant.on in
    let step = subst (λ (s : PrefStore). StepsAt (rules_in old.shelf) s c.args.place (state_in mid) (state_in new)) on.store c.in_ok-go.ensures.steps in
    record {
      steps = times_more (rules_in old.shelf) (store_in old.shelf) c.args.place c.loop-step._step (state_in old) (state_in mid) (state_in new) c.loop-step.invariant.steps step;
      on = record { keeps = c.in_ok-go.ensures.keeps; store = c.go.ensures.store ∙ on.store; asked = c.go.ensures.asked ∙ on.asked };
    }

pub returns-then-not-is_busy-clause-steps : goal.returns-then-not-is_busy-clause-steps
returns-then-not-is_busy-clause-steps c =
    let old = c.args.self.now in
    let mid = c.loop-step.self in
    let it = c.loop-step.invariant in
    let client = c.index.result.now in
    let within = place_on old mid c.args.place it.on c.requires.within in
    let found = slice_get_read mid.clients.items (vec_len mid.clients) c.args.place client mid.clients.ok.0 within c.index.ensures in
    let idle : is_busy (client_seen client) ≡ false = sym c.is_busy.ensures ∙ c.if-not-is_busy.true in
    times_up_to (rules_in old.shelf) (store_in old.shelf) c.args.place c.loop-step._step c.args.steps (state_in old) (state_in mid) c.loop-step.auto._step-end it.steps
    (rests (rules_in old.shelf) (store_in old.shelf) c.args.place (state_in mid) (client_seen client) (seen_at mid c.args.place client found) idle (at_home mid c.args.place client found it.on.keeps))
