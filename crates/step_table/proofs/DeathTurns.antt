-- Where a death ends a call there is a turn: behind a death of its node, and where one is planned.
use Rattle.std.proofs.Common.{◌≡◌, ℕ, true, false, Some, refl}
use Rattle.shelf.specs.declared.store.Store.{Store}
use Rattle.shelf.specs.Deaths.{last_death}
use Rattle.shelf.specs.Rules.{Rules}
use Rattle.shelf.proofs.DeathLemmas.{has_died-last}
use Rattle.step_table.specs.Calls.{Call, is_gone}
use Rattle.step_table.specs.Effects.{Ceases, Effect, Unused, does, gave_by}
use Rattle.step_table.specs.Turn.{Allowed, Turn, dies_now, dying, has_died_by}
use Rattle.step_table.specs.World.{World}
use Rattle.step_table.proofs.EffectsMade.{begun, comes_by, turn_to, turned_by}

module _ {V T M : Type 0} (r : Rules V T) (s : Store V M) (w : World V T) (call : Call V T) where
  -- the turn that this effect makes
  pub record TurnsBy (e : Effect V T) : Type 0 where
    pub turn : Turn r s (record (turned_by w (begun w call) e) { call = call }) (gave_by e.next)
    pub same : turn.effect ≡ e

  module _ (goes_on : is_gone call.at ≡ false) where
    -- its node died before
    pub dead_turn : has_died_by (turn_to w (begun w call) w) ≡ true → (place : ℕ) × (last_death call.id.node w.history ≡ Some place) × TurnsBy (does (Ceases place))
    dead_turn died =
        let last = has_died-last call.id.node (begun w call).since w.history died in
        let e : Effect V T = does (Ceases last.0) in
        let allowed : Allowed r s (turned_by w (begun w call) e) e = rw (goes_on, died) (record { place = last.0; last = last.1; is = refl }) in
        (last.0, last.1, record { turn = record { effect = e; allowed = allowed; comes = comes_by w (begun w call) Unused e refl }; same = refl })

    -- it lives, and its death is planned for this step
    pub dying_turn : has_died_by (turn_to w (begun w call) w) ≡ false → dies_now (turn_to w (begun w call) w) ≡ true → TurnsBy (dying (turn_to w (begun w call) w))
    dying_turn lives dies =
        let e : Effect V T = dying (turn_to w (begun w call) w) in
        let allowed : Allowed r s (turned_by w (begun w call) e) e = rw (goes_on, lives, dies) refl in
        record { turn = record { effect = e; allowed = allowed; comes = comes_by w (begun w call) Unused e refl }; same = refl }
