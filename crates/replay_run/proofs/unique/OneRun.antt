-- The lines of a script, and the rounds behind them, lead to one end.
use Rattle.std.proofs.Common.{◌≡◌, ◌∙◌, ◌+◌, ℕ, suc, zero, true, false, List, [], ◌∷◌, length, Option, Some, None, is_some, slice_set, refl, sym, ap, subst}
use Rattle.prefs_model.specs.declared.pref_pair.PrefPair.{PrefPair}
use Rattle.script_lang.specs.declared.plan.run_line.Act.{Act}
use Rattle.script_lang.specs.declared.plan.run_line.Act.TheVariants.{Go}
use Rattle.script_lang.specs.declared.plan.run_line.RunLine.{RunLine}
use Rattle.shelf.specs.declared.store.Store.{Store}
use Rattle.shelf.proofs.Bools.{never}
use Rattle.replay_run.specs.Lines.{Asks, Follows, FollowsAll, StepsTimes, with_act}
use Rattle.replay_run.specs.Rounds.{EndsBy, IsOver, Rounds, StepsEach}
use Rattle.replay_run.specs.RunState.{Client, NodeView, RunState, act_now, is_busy}
use Rattle.replay_run.specs.Settings.{PrefRules, Value}
use Rattle.replay_run.specs.Steps.{StepsAt, StepsBy}
use Rattle.replay_run.proofs.keeping.RunKeeps.{rounds_keep}
use Rattle.replay_run.proofs.lists.OptionLemmas.{none_at, one_of_it}
use Rattle.replay_run.proofs.lists.SetLemmas.{set_same}
use Rattle.replay_run.proofs.unique.OneStep.{IsOneState, both_same, steps_once}
use Rattle.replay_run.proofs.work.RunLemmas.{brings_none}

-- where nobody has anything to do, nothing changes any more
module _ (r : PrefRules) {M : Type 0} (s : Store Value M) where
  idle_by : (at : Option Act) (client client_after : Client) (view after : NodeView) → is_some at ≡ false → StepsBy r s at client view client_after after → (client_after ≡ client) × (after ≡ view)
  idle_by (Some act) client client_after view after idle it = never (sym idle)
  idle_by None client client_after view after idle it = it

  step_over : (place : ℕ) (old new : RunState) → IsOver old → StepsAt r s place old new → new ≡ old
  step_over place old new over it =
      let idle : is_busy it.client ≡ false = none_at is_busy old.clients place it.client over it.was in
      let same = idle_by (act_now it.client) it.client it.client_after (record { world = old.shared.world; kept = it.kept }) (record { world = new.shared.world; kept = it.kept_after }) idle it.steps in
      let world : new.shared.world ≡ old.shared.world = ap (λ (view : NodeView). view.world) same.1 in
      let caches : new.shared.caches ≡ old.shared.caches =
      it.caches ∙ (brings_none it.client it.client_after (slice_set old.shared.caches it.client.node.0 it.kept_after) idle ∙ ap (λ (view : NodeView). slice_set old.shared.caches it.client.node.0 view.kept) same.1 ∙ set_same old.shared.caches it.client.node.0 it.kept it.cache) in
      let clients : new.clients ≡ old.clients = it.now ∙ (ap (λ (c : Client). slice_set old.clients place c) same.0 ∙ set_same old.clients place it.client it.was) in
      rw (world, caches, clients) refl

  rounds_over : (rounds : ℕ) (old new : RunState) → IsOver old → Rounds r s rounds old new → new ≡ old
  rounds_over rounds old new over it = rounds_keep r s (λ state. state ≡ old) (λ place x y step same. step_over place x y (subst IsOver (sym same) over) step ∙ same) rounds old new it refl

module _ (r : PrefRules) {M : Type 0} (s : Store Value M) (read_once : (bytes : List ℕ) (x y : List PrefPair) → r.reads bytes x → r.reads bytes y → x ≡ y) where
  times_once : (place steps : ℕ) (old x y : RunState) → old.shared.world.told ≡ true → StepsTimes r s place steps old x → StepsTimes r s place steps old y → IsOneState x y
  unfolding StepsTimes
  times_once place zero old x y told a b = both_same old x y told a b
  times_once place (suc steps) old x y told a b =
      let first = steps_once r s read_once place old a.0 b.0 told a.1 b.1 in
      times_once place steps a.0 x y first.told a.2 (subst (λ (between : RunState). StepsTimes r s place steps between y) (sym first.same) b.2)

  asks_once : (place : ℕ) (act : Act) (old x y : RunState) → old.shared.world.told ≡ true → Asks place act old x → Asks place act old y → IsOneState x y
  asks_once place act old x y told a b =
      let client : a.client ≡ b.client = one_of_it _ a.client b.client a.was b.was in
      let same : x ≡ y = a.now ∙ (ap (λ (c : Client). record old { clients = slice_set old.clients place (with_act act c) }) client ∙ sym b.now) in
      record { same = same; told = ap (λ (state : RunState). state.shared.world.told) a.now ∙ told }

  line_once : (place : ℕ) (act : Act) (old x y : RunState) → old.shared.world.told ≡ true → Follows r s place act old x → Follows r s place act old y → IsOneState x y
  line_once place (Go steps) old x y told a b = times_once place steps old x y told a b
  line_once place act old x y told a b = asks_once place act old x y told a b

  pub lines_once : (lines : List RunLine) (old x y : RunState) → old.shared.world.told ≡ true → FollowsAll r s lines old x → FollowsAll r s lines old y → IsOneState x y
  unfolding FollowsAll
  lines_once [] old x y told a b = both_same old x y told a b
  lines_once (line ∷ lines) old x y told a b =
      let first = line_once line.client.0 line.act old a.0 b.0 told a.1 b.1 in
      lines_once lines a.0 x y first.told a.2 (subst (λ (between : RunState). FollowsAll r s lines between y) (sym first.same) b.2)

  each_once : (place clients : ℕ) (old x y : RunState) → old.shared.world.told ≡ true → StepsEach r s place clients old x → StepsEach r s place clients old y → IsOneState x y
  unfolding StepsEach
  each_once place zero old x y told a b = both_same old x y told a b
  each_once place (suc clients) old x y told a b =
      let first = steps_once r s read_once place old a.0 b.0 told a.1 b.1 in
      each_once (place + 1) clients a.0 x y first.told a.2 (subst (λ (between : RunState). StepsEach r s (place + 1) clients between y) (sym first.same) b.2)

  -- one may go on for more rounds than the other, in which nothing changes
  rounds_once : (n m : ℕ) (old x y : RunState) → old.shared.world.told ≡ true → Rounds r s n old x → IsOver x → Rounds r s m old y → IsOver y → x ≡ y
  unfolding Rounds
  rounds_once zero m old x y told a over b also = a ∙ sym (rounds_over r s m old y (subst IsOver a over) b)
  rounds_once (suc n) zero old x y told a over b also = rounds_over r s (suc n) old x (subst IsOver b also) a ∙ sym b
  rounds_once (suc n) (suc m) old x y told a over b also =
      let first = each_once 0 (length old.clients) old a.0 b.0 told a.1 b.1 in
      rounds_once n m a.0 x y first.told a.2 over (subst (λ (between : RunState). Rounds r s m between y) (sym first.same) b.2) also

  pub ends_once : (stop : Option ℕ) (old x y : RunState) → old.shared.world.told ≡ true → EndsBy r s stop old x → EndsBy r s stop old y → x ≡ y
  ends_once None old x y told a b = rounds_once a.rounds b.rounds old x y told a.rest a.over b.rest b.over
  ends_once (Some image) old x y told a b = a ∙ sym b
