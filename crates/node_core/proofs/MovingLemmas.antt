-- A call that moved did its row's work and has not ended, and a call that has not ended has turns left.
use Rattle.std.proofs.Common.{◌≡◌, ◌∙◌, ◌≤◌, ℕ, Bool, true, false, not, Some, refl, sym, ap, arith}
use Rattle.shelf.specs.declared.store.Store.{Store}
use Rattle.shelf.specs.Rules.{Rules}
use Rattle.shelf.proofs.Bools.{never}
use Rattle.step_table.specs.Calls.{At, First, Gave, Reading, Initialise, Writing, Creating, Gone, Reply, is_gone}
use Rattle.step_table.specs.Effects.{Ceases, Effect, Next, Goes, Comes, gave_by}
use Rattle.step_table.specs.Rows.{Row, waits, goes_without, finishes}
use Rattle.step_table.specs.Turn.{AllowedBy, RowOf, Turn, has_died_by, dies_now}
use Rattle.step_table.specs.World.{Turned, World, begin}
use Rattle.step_table.specs.declared.progress.Progress.{Progress}
use Rattle.step_table.specs.declared.progress.Progress.TheVariants.{Moved, Ended}
use Rattle.step_table.proofs.LockLemmas.{not_freed}
use Rattle.node_core.specs.Phases.{is_holding}
use Rattle.node_core.specs.StepsLeft.{steps_left}

module _ {V T : Type 0} where
  -- the effect moves its call
  abbrev pub moves : Next V T → Bool
  moves (Goes lock at) = true
  moves other = false

  moved_moves : (next : Next V T) → Moved ≡ gave_by next → moves next ≡ true
  moved_moves (Goes lock at) is = refl
  moved_moves other is = cc

  -- the effect is that of a call whose node died before
  abbrev ceases : Next V T → Bool
  ceases (Ceases place) = true
  ceases other = false

  moved_goes : (next : Next V T) → Moved ≡ gave_by next → ceases next ≡ false
  moved_goes (Ceases place) is = cc
  moved_goes other is = refl

  gave_goes : (edition : ℕ) (value : V) (next : Next V T) → Ended (Gave edition value) ≡ gave_by next → ceases next ≡ false
  gave_goes edition value (Ceases place) is = cc
  gave_goes edition value other is = refl

  pub has_left : (limit : ℕ) (initialised : Bool) (at : At V T) → is_gone at ≡ false → 1 ≤ steps_left limit initialised at
  has_left limit true (First ask) running = omega arith
  has_left limit initialised (Reading Initialise ask) running = omega arith
  has_left limit initialised (Writing Creating plan) running = omega arith
  has_left limit initialised Gone running = never (sym running)
  has_left limit initialised other running = omega arith

module _ {V T M : Type 0} (r : Rules V T) (s : Store V M) where
  row_by : (gone died dies : Bool) (t : Turned V T) (e : Effect V T) → AllowedBy r s gone died dies t e → moves e.next ≡ true → RowOf r s t e
  row_by true died dies t e it is = absurd it
  row_by false true dies t e it is = never (rw it.is at is)
  row_by false false true t e it is = never (rw it at is)
  row_by false false false t e it is = it

  -- a turn that moved its call did the work of its row
  pub moved_row : (t : Turned V T) (turn : Turn r s t Moved) → RowOf r s t turn.effect × (moves turn.effect.next ≡ true)
  moved_row t turn =
      let is = moved_moves turn.effect.next turn.comes.given in
      (row_by (is_gone t.call.at) (has_died_by (begin t)) (dies_now (begin t)) (begin t) turn.effect turn.allowed is, is)

  lives_by : (gone died dies : Bool) (t : Turned V T) (e : Effect V T) → AllowedBy r s gone died dies t e → ceases e.next ≡ false → died ≡ false
  lives_by true died dies t e it goes = absurd it
  lives_by false true dies t e it goes = never (sym goes ∙ rw it.is refl)
  lives_by false false dies t e it goes = refl

  -- a turn that does not cease is of a call whose node has not died
  turn_lives : (t : Turned V T) (gave : Progress (Reply V)) (turn : Turn r s t gave) → ceases turn.effect.next ≡ false → has_died_by (begin t) ≡ false
  turn_lives t gave turn goes = lives_by (is_gone t.call.at) (has_died_by (begin t)) (dies_now (begin t)) (begin t) turn.effect turn.allowed goes

  pub moved_lives : (t : Turned V T) → Turn r s t Moved → has_died_by (begin t) ≡ false
  moved_lives t turn = turn_lives t Moved turn (moved_goes turn.effect.next turn.comes.given)

  pub gave_lives : (t : Turned V T) (edition : ℕ) (value : V) → Turn r s t (Ended (Gave edition value)) → has_died_by (begin t) ≡ false
  gave_lives t edition value turn = turn_lives t (Ended (Gave edition value)) turn (gave_goes edition value turn.effect.next turn.comes.given)

  -- the call has not ended, and where it owns the lock behind it, it holds it
  abbrev RunsOn : Turned V T → Type 0
  RunsOn t = (is_gone t.call_after.at ≡ false) × (t.world_after.owner ≡ Some t.call.id → is_holding t.call_after.at ≡ true)

  row_runs : (t : Turned V T) {at : At V T} {e : Effect V T} → Row r s t.world t.call.id at e → moves e.next ≡ true → Comes t e Moved → RunsOn t
  row_runs t (waits another must) is comes = never is
  row_runs t finishes is comes = (rw comes.call refl, λ owns. absurd (not_freed t.call.id t.world.owner (sym (ap (λ (w : World V T). w.owner) comes.world) ∙ owns)))
  row_runs t (goes_without another need_not) is comes =
      (rw comes.call refl, λ owns. absurd (let own : t.world.owner ≡ Some t.call.id = sym (ap (λ (w : World V T). w.owner) comes.world) ∙ owns in (rw own at another) refl))
  row_runs t other is comes = (rw comes.call (ap not is), λ owns. rw comes.call is)

  moved_on : (t : Turned V T) → Turn r s t Moved → RunsOn t
  moved_on t turn = let row = moved_row t turn in row_runs (begin t) row.0 row.1 turn.comes

  pub moved_runs : (t : Turned V T) → Turn r s t Moved → is_gone t.call_after.at ≡ false
  moved_runs t turn = (moved_on t turn).0

  pub moved_holds : (t : Turned V T) → Turn r s t Moved → t.world_after.owner ≡ Some t.call.id → is_holding t.call_after.at ≡ true
  moved_holds t turn = (moved_on t turn).1
