-- A step leads to one state, where the folder tells what it holds.
use Rattle.std.proofs.Common.{◌≡◌, ◌∙◌, ℕ, true, List, Option, Some, None, slice_get, slice_set, refl, sym, ap, subst}
use Rattle.prefs_model.specs.declared.pref_pair.PrefPair.{PrefPair}
use Rattle.script_lang.specs.declared.plan.run_line.Act.{Act}
use Rattle.script_lang.specs.declared.plan.run_line.Act.TheVariants as act
use Rattle.shelf.specs.declared.store.Store.{Store}
use Rattle.step_table.proofs.OneTurn.{ComesTo, one_turn}
use Rattle.replay_run.specs.Answering.{behind_turn}
use Rattle.replay_run.specs.RunState.{Client, NodeView, RunState, act_now, call_now}
use Rattle.replay_run.specs.Settings.{PrefCall, PrefRules, PrefWorld, Value}
use Rattle.replay_run.specs.Steps.{ClientSteps, ReadSteps, StepsAt, StepsBy, TakesTurn}
use Rattle.replay_run.proofs.lists.OptionLemmas.{nothing, one_of, one_of_it}

-- two states are one, and its folder tells what it holds
pub record IsOneState (x y : RunState) : Type 0 where
  pub same : x ≡ y
  pub told : x.shared.world.told ≡ true

pub both_same : (old x y : RunState) → old.shared.world.told ≡ true → x ≡ old → y ≡ old → IsOneState x y
both_same old x y told is also = record { same = is ∙ sym also; told = ap (λ (state : RunState). state.shared.world.told) is ∙ told }

-- so are a client and what its step leaves of its node
record IsOne (client_x client_y : Client) (x y : NodeView) : Type 0 where
  pub client : client_x ≡ client_y
  pub view : x ≡ y
  pub told : x.world.told ≡ true

module _ (r : PrefRules) {M : Type 0} (s : Store Value M) (read_once : (bytes : List ℕ) (x y : List PrefPair) → r.reads bytes x → r.reads bytes y → x ≡ y) where
  module _ (client client_x client_y : Client) (old x y : NodeView) (told : old.world.told ≡ true) where
    module _ (call : PrefCall) where
      comes_to : (client_after : Client) (view_after : NodeView) (a : TakesTurn r s call client old client_after view_after) → ComesTo r s read_once old.world told call a.gave view_after.world a.call_after
      comes_to client_after view_after a =
          record { turn = a.turn; memory = λ short. nothing client_after (ap (λ gave. behind_turn client a.call_after gave) (sym short) ∙ a.now); spares = a.spares }

      turn_once : TakesTurn r s call client old client_x x → TakesTurn r s call client old client_y y → IsOne client_x client_y x y
      turn_once a b =
          let one = one_turn r s read_once old.world told call x.world y.world a.call_after b.call_after a.gave b.gave (comes_to client_x x a) (comes_to client_y y b) in
          let kept : x.kept ≡ y.kept = a.kept ∙ (rw (one.gave, one.world) refl ∙ sym b.kept) in
          record {
            client = one_of client_x client_y (sym a.now ∙ (rw (one.gave, one.call) refl) ∙ b.now);
            view = rw (one.world, kept) refl;
            told = ap (λ (w : PrefWorld). w.told) a.turn.comes.world ∙ told;
          }

    stays : x ≡ old → x.world.told ≡ true
    stays same = ap (λ (view : NodeView). view.world.told) same ∙ told

    read_once_by : (running : Option PrefCall) → ReadSteps r s running client old client_x x → ReadSteps r s running client old client_y y → IsOne client_x client_y x y
    read_once_by None a b = record { client = a.now ∙ sym b.now; view = a.same ∙ sym b.same; told = stays a.same }
    read_once_by (Some call) a b = turn_once call a b

    steps_by : (at : Option Act) → StepsBy r s at client old client_x x → StepsBy r s at client old client_y y → IsOne client_x client_y x y
    steps_by (Some (act.Update edit)) a b = turn_once (call_now client (act.Update edit)) a b
    steps_by (Some (act.Restart node)) a b = turn_once (call_now client (act.Restart node)) a b
    steps_by (Some act.Read) a b = read_once_by client.running a b
    steps_by (Some other) a b = absurd a
    steps_by None a b = record { client = a.0 ∙ sym b.0; view = a.1 ∙ sym b.1; told = stays a.1 }

  pub steps_once : (place : ℕ) (old x y : RunState) → old.shared.world.told ≡ true → StepsAt r s place old x → StepsAt r s place old y → IsOneState x y
  steps_once place old x y told a b =
      let client : b.client ≡ a.client = one_of_it _ b.client a.client b.was a.was in
      let cache : slice_get old.shared.caches a.client.node.0 ≡ Some b.kept = subst (λ (c : Client). slice_get old.shared.caches c.node.0 ≡ Some b.kept) client b.cache in
      let kept : b.kept ≡ a.kept = one_of_it _ b.kept a.kept cache a.cache in
      let also = subst (λ k. ClientSteps r s a.client (record { world = old.shared.world; kept = k }) b.client_after (record { world = y.shared.world; kept = b.kept_after })) kept
      (subst (λ (c : Client). ClientSteps r s c (record { world = old.shared.world; kept = b.kept }) b.client_after (record { world = y.shared.world; kept = b.kept_after })) client b.steps) in
      let one = steps_by a.client a.client_after b.client_after (record { world = old.shared.world; kept = a.kept }) (record { world = x.shared.world; kept = a.kept_after }) (record { world = y.shared.world; kept = b.kept_after }) told
      (act_now a.client) a.steps also in
      let world : x.shared.world ≡ y.shared.world = ap (λ (view : NodeView). view.world) one.view in
      let kept_after : a.kept_after ≡ b.kept_after = ap (λ (view : NodeView). view.kept) one.view in
      let caches : x.shared.caches ≡ y.shared.caches = rw (a.caches, b.caches, client, one.client, kept_after) refl in
      let clients : x.clients ≡ y.clients = a.now ∙ (ap (λ (c : Client). slice_set old.clients place c) one.client ∙ sym b.now) in
      record { same = rw (world, caches, clients) refl; told = one.told }
