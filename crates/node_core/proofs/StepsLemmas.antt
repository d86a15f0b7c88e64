-- Each turn that is not blocked leaves a call fewer turns.
use Rattle.std.proofs.Common.{◌≡◌, ◌+◌, ◌<◌, ◌==◌, ◌||◌, ℕ, Bool, true, false, length, refl, sym, ◌∙◌, arith, if◌then◌else◌}
use Rattle.std.proofs.lemmas.List.{length-drop}
use Rattle.store_traits.specs.declared.ids.CallId.{CallId}
use Rattle.hist_journal.specs.Nodes.{is_ready}
use Rattle.shelf.specs.declared.store.Store.{Store}
use Rattle.shelf.specs.Rules.{Rules}
use Rattle.shelf.proofs.Bools.{never}
use Rattle.step_table.specs.Calls.{At, Plan, Appending, SyncingScratch, is_first}
use Rattle.step_table.specs.Effects.{Effect, at_by}
use Rattle.step_table.specs.Rows.{Row, filling, piece_written, takes_first, takes, goes_without, loads, migrates, finishes, keeps, changes, raises, creates, appends, syncs_scratch, renames}
use Rattle.step_table.specs.Turn.{Turn}
use Rattle.step_table.specs.World.{Turned, World}
use Rattle.step_table.specs.declared.progress.Progress.TheVariants.{Moved}
use Rattle.node_core.specs.Knows.{Knows}
use Rattle.node_core.specs.Phases.{is_finishing}
use Rattle.node_core.specs.Plans.{PlanAt}
use Rattle.node_core.specs.StepsLeft.{steps_left, writing_left}
use Rattle.node_core.proofs.MovingLemmas.{moves, moved_row}

-- once the lock is taken, to read main for the call or to initialise its node first, and once that is done
fewer : (limit : ℕ) (initialised : Bool) → limit + 6 < limit + (if initialised then 7 else 11)
fewer limit true = omega arith
fewer limit false = omega arith

unready : (limit : ℕ) (initialised : Bool) → (initialised ≡ true → false ≡ true) → limit + 10 < limit + (if initialised then 7 else 11)
unready limit true known = never (known refl)
unready limit false known = omega arith

once_initialised : (limit : ℕ) (initialised : Bool) → limit + (if initialised || true then 7 else 11) < limit + 8
once_initialised limit true = omega arith
once_initialised limit false = omega arith

-- once the scratch file is there, or has a piece more
fills : {V T : Type 0} (limit : ℕ) (initialised : Bool) (plan : Plan V T) (left : ℕ) → length plan.text.rest + 3 < left → steps_left limit initialised (filling plan) < left
fills {V} {T} limit initialised plan left more = by_rest (length plan.text.rest == 0)
  where
    by_rest : (b : Bool) → writing_left (if b then SyncingScratch else Appending) plan < left
    by_rest true = omega (arith, more)
    by_rest false = more

module _ {V T M : Type 0} (r : Rules V T) (s : Store V M) (initialised : Bool) where
  row_steps : (w : World V T) (call : CallId) {at : At V T} {e : Effect V T} → Row r s w call at e → moves e.next ≡ true → PlanAt at
      → (initialised ≡ true → is_first at ≡ true → is_ready call.node w.history ≡ true)
      → steps_left s.limits.file (initialised || is_finishing at) (at_by e.next at) < steps_left s.limits.file initialised at
  row_steps w call (takes_first may none) is plan known = unready s.limits.file initialised (λ it. sym none ∙ known it refl)
  row_steps w call (takes may ready) is plan known = fewer s.limits.file initialised
  row_steps w call (goes_without another need_not) is plan known = fewer s.limits.file initialised
  row_steps w call (loads read) is plan known = omega arith
  row_steps w call (migrates none) is plan known = omega arith
  row_steps w call finishes is plan known = once_initialised s.limits.file initialised
  row_steps w call (keeps read same) is plan known = omega arith
  row_steps w call (changes makes fits) is plan known = omega (arith, fits)
  row_steps w call raises is plan known = omega arith
  row_steps w call (creates {plan}) is written known = fills s.limits.file initialised plan (length plan.text.rest + 4) (omega arith)
  row_steps w call (appends {plan}) is written known =
      fills s.limits.file initialised (piece_written plan) (length plan.text.rest + 3) (omega (arith, length-drop 4096 plan.text.rest, written.left))
  row_steps w call syncs_scratch is plan known = omega arith
  row_steps w call renames is plan known = omega arith
  row_steps w call other is plan known = never is

  -- a turn that moves leaves its call fewer turns; behind the one that tells that its node is initialised, the call finds it so
  pub turn_steps : (t : Turned V T) → Turn r s t Moved → Knows r s t.world t.call
      → (initialised ≡ true → is_first t.call.at ≡ true → is_ready t.call.id.node t.world.history ≡ true)
      → steps_left s.limits.file (initialised || is_finishing t.call.at) t.call_after.at < steps_left s.limits.file initialised t.call.at
  turn_steps t turn knows known = let row = moved_row r s t turn in rw turn.comes.call (row_steps t.world t.call.id row.0 row.1 knows.plan known)
