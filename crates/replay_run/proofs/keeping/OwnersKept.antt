-- The lock behind a turn: the call owns it and holds it, or another did before; and whoever owns it lives.
use Rattle.std.proofs.Common.{◌≡◌, ◌∙◌, ◌≢◌, Bool, true, false, Option, Some, None, IfSome, slice_get, slice_set, unwrap_or, refl, sym, ap, subst}
use Rattle.store_traits.specs.declared.ids.CallId.{CallId}
use Rattle.hist_journal.specs.Kinds.{is_call}
use Rattle.shelf.specs.declared.store.Store.{Store}
use Rattle.shelf.specs.Deaths.{has_died}
use Rattle.shelf.proofs.Bools.{never}
use Rattle.shelf.proofs.SameCalls.{itself, same_call}
use Rattle.shelf.proofs.DeathLemmas.{has_died-now}
use Rattle.step_table.specs.declared.progress.Progress.{Progress}
use Rattle.step_table.specs.declared.progress.Progress.TheVariants.{Ended}
use Rattle.step_table.specs.Calls.{Reply}
use Rattle.step_table.specs.Laws.{OwnsAlive, WritesAChange}
use Rattle.step_table.specs.Turn.{Turn, has_died_by}
use Rattle.step_table.specs.World.{begin}
use Rattle.step_table.proofs.Applying.{dead_turn_changes_nothing, ended_owns_nothing, turn_owner}
use Rattle.step_table.proofs.OwnersAlive.{others_live, owner_stays_alive}
use Rattle.step_table.proofs.Waiting.{turn_waits}
use Rattle.node_core.proofs.MovingLemmas.{moved_holds, moved_lives}
use Rattle.replay_run.specs.ClientInvariant.{CallInvariant}
use Rattle.replay_run.specs.RunInvariant.{HasOwner}
use Rattle.replay_run.specs.RunState.{Client, RunState, new_call}
use Rattle.replay_run.specs.Settings.{PrefCall, PrefRules, PrefWorld, Value}
use Rattle.node_core.proofs.PlanLemmas.{writes_change}
use Rattle.replay_run.proofs.keeping.BehindTurns.{Behind, behind, blocked, ended, moved}
use Rattle.replay_run.proofs.keeping.ClientTurns.{ClientTurn, at_place, call, clients_after, knows, same_id, turned}
use Rattle.replay_run.proofs.keeping.ReplacedClient.{owner_apart}
use Rattle.replay_run.proofs.lists.OptionLemmas.{one_of_it}
use Rattle.replay_run.proofs.lists.SetLemmas.{set_found}

module _ {r : PrefRules} {M : Type 0} {s : Store Value M} {state : RunState} (k : ClientTurn r s state) where
  abbrev w : PrefWorld
  w = state.shared.world

  -- an owner whose call is another has its own place
  other_place : (id : CallId) (it : HasOwner state.clients w.history id) → id ≢ (call k).id → it.place ≡ k.place → ⊥
  other_place id it unlike here =
      let same_client : it.client ≡ k.client = one_of_it (slice_get state.clients k.place) it.client k.client (rw (← here) it.found) k.found in
      let runs : k.client.running ≡ Some it.call = ap (λ (c : Client). c.running) (sym same_client) ∙ it.runs in
      unlike (it.own ∙ ap (λ running. (unwrap_or running (new_call k.client k.asked)).id) (sym runs))

  -- whoever owned the lock before
  owner_was : (id : CallId) → w.owner ≡ Some id → HasOwner state.clients w.history id
  owner_was id owned = subst (λ o. IfSome o (HasOwner state.clients w.history)) owned k.keeps.owner

  own_lives : HasOwner state.clients w.history (call k).id → has_died (call k).id.node (call k).since w.history ≡ false
  own_lives it =
      let theirs = k.keeps.clients it.place it.client it.found in
      let its : CallInvariant r s it.client w it.call = subst (λ running. IfSome running (CallInvariant r s it.client w)) it.runs theirs.running in
      let here : it.place ≡ k.place = sym theirs.id ∙ (ap (λ (id : CallId). id.client.0) (sym its.id ∙ sym it.own) ∙ at_place k) in
      let same_client : it.client ≡ k.client = one_of_it (slice_get state.clients k.place) it.client k.client (rw (← here) it.found) k.found in
      let runs : k.client.running ≡ Some it.call = ap (λ (c : Client). c.running) (sym same_client) ∙ it.runs in
      subst (λ (c : PrefCall). has_died c.id.node c.since w.history ≡ false) (sym (ap (λ running. unwrap_or running (new_call k.client k.asked)) runs)) it.lives

  -- the call, if it owned the lock, lived
  own_lived : OwnsAlive w (call k)
  own_lived owned = own_lives (owner_was (call k).id owned)

  changes : has_died_by (begin (turned k)) ≡ false → WritesAChange (call k).at
  changes lives = writes_change (call k).at (knows k lives).plan

  module _ (died : has_died_by (begin (turned k)) ≡ true) where
    -- a call whose node had died leaves the world
    same_world : k.w_after ≡ w
    same_world = (dead_turn_changes_nothing r s (turned k) k.takes.gave k.takes.turn died).world

    owns_not : k.w_after.owner ≡ Some (call k).id → ⊥
    owns_not owns =
        let lives = own_lived (ap (λ (w : PrefWorld). w.owner) (sym same_world) ∙ owns) in
        never (sym (has_died-now (call k).id.node (call k).since w.history ∙ lives) ∙ died)

  abbrev OwnsNow : Client → Type 0
  OwnsNow c = HasOwner (slice_set state.clients k.place c) k.w_after.history (call k).id

  ended_owns : (died : Bool) → has_died_by (begin (turned k)) ≡ died → (reply : Reply Value) → Turn r s (turned k) (Ended reply) → k.w_after.owner ≡ Some (call k).id → ⊥
  ended_owns true died reply turn owns = owns_not died owns
  ended_owns false lives reply turn owns = ended_owns_nothing r s (turned k) reply turn lives owns

  own_owner : (gave : Progress (Reply Value)) (c : Client) → Behind k.client k.takes.call_after gave c → Turn r s (turned k) gave → k.w_after.owner ≡ Some (call k).id → OwnsNow c
  own_owner gave c (ended {reply} tells) turn owns = absurd (ended_owns (has_died_by (begin (turned k))) refl reply turn owns)
  own_owner gave c moved turn owns =
      record {
        place = k.place;
        client = c;
        call = k.takes.call_after;
        found = set_found state.clients k.place c k.client k.found;
        runs = refl;
        own = sym (same_id k);
        holds = moved_holds r s (turned k) turn owns;
        lives = owner_stays_alive r s (turned k) gave turn (changes (moved_lives r s (turned k) turn)) own_lived (owns ∙ ap Some (sym (same_id k)));
      }
  own_owner gave c blocked turn owns =
      let waits = turn_waits r s (turned k) turn in
      let owned : w.owner ≡ Some (call k).id = ap (λ (w : PrefWorld). w.owner) (sym waits.4) ∙ owns in
      let another = waits.3 in
      absurd ((rw owned at another) refl)

  -- another that owned the lock lives, if it owns it still
  other_lives : (died : Bool) → has_died_by (begin (turned k)) ≡ died → (o : PrefCall) → o.id ≢ (call k).id → k.w_after.owner ≡ Some o.id → has_died o.id.node o.since w.history ≡ false → has_died o.id.node o.since k.w_after.history ≡ false
  other_lives true died o unlike owns lives = ap (λ (w : PrefWorld). has_died o.id.node o.since w.history) (same_world died) ∙ lives
  other_lives false alive o unlike owns lives = others_live r s (turned k) k.takes.gave k.takes.turn (changes alive) o unlike (λ owned. lives) owns

  other_owner : (id : CallId) → k.w_after.owner ≡ Some id → id ≢ (call k).id → HasOwner (clients_after k) k.w_after.history id
  other_owner id owns unlike =
      let it = owner_was id (turn_owner r s (turned k) k.takes.gave k.takes.turn id owns unlike) in
      owner_apart state.clients k.place k.client k.now k.found w.history k.w_after.history id it (other_place id it unlike)
      (other_lives (has_died_by (begin (turned k))) refl it.call (λ same. unlike (it.own ∙ same)) (owns ∙ ap Some it.own) it.lives)

  owner_by : (o : Option CallId) → k.w_after.owner ≡ o → IfSome o (HasOwner (clients_after k) k.w_after.history)
  owner_by None is = tt
  owner_by (Some id) is = by_own (is_call id (call k).id) refl
    where
      by_own : (b : Bool) → is_call id (call k).id ≡ b → HasOwner (clients_after k) k.w_after.history id
      by_own true own =
          let same : id ≡ (call k).id = same_call id (call k).id own in
          rw same (own_owner k.takes.gave k.now (behind k.client k.takes.call_after k.takes.gave k.now k.takes.now) k.takes.turn (is ∙ ap Some same))
      by_own false own = other_owner id is (λ same. never (sym own ∙ (rw same (itself (call k).id))))

  pub owner_kept : IfSome k.w_after.owner (HasOwner (clients_after k) k.w_after.history)
  owner_kept = owner_by k.w_after.owner refl
