-- What a turn may be: the node of its call has died before, a planned death strikes, or it is a row of the table.
use Rattle.std.proofs.Common.{◌≡◌, ◌∙◌, Bool, true, false, refl, sym, ap}
use Rattle.shelf.specs.declared.store.Store.{Store}
use Rattle.shelf.proofs.Bools.{never}
use Rattle.step_table.specs.declared.progress.Progress.{Progress}
use Rattle.step_table.specs.Calls.{Reply, is_gone}
use Rattle.step_table.specs.Turn.{AllowedBy, EndsDead, RowOf, Turn, dies_now, dying, has_died_by}
use Rattle.step_table.specs.World.{Turned, begin}
use Rattle.replay_run.specs.Settings.{Change, PrefCall, PrefRules, Value}

module _ (r : PrefRules) {M : Type 0} (s : Store Value M) (t : Turned Value Change) (gave : Progress (Reply Value)) (turn : Turn r s t gave) where
  -- of a call that no death ends
  pub record Worked : Type 0 where
    pub lives : has_died_by (begin t) ≡ false
    pub unplanned : dies_now (begin t) ≡ false
    pub row : RowOf r s t turn.effect

  pub data TurnCase : Type 0 where
    dead : has_died_by (begin t) ≡ true → EndsDead (begin t) turn.effect → TurnCase
    struck : has_died_by (begin t) ≡ false → dies_now (begin t) ≡ true → turn.effect ≡ dying (begin t) → TurnCase
    works : Worked → TurnCase

  case_by : (gone died strikes : Bool) → has_died_by (begin t) ≡ died → dies_now (begin t) ≡ strikes → AllowedBy r s gone died strikes (begin t) turn.effect → TurnCase
  case_by true died strikes has_died planned it = absurd it
  case_by false true strikes has_died planned it = dead has_died it
  case_by false false true lives planned it = struck lives planned it
  case_by false false false lives unplanned it = works (record { lives = lives; unplanned = unplanned; row = it })

  pub turn_case : TurnCase
  turn_case = case_by (is_gone t.call.at) (has_died_by (begin t)) (dies_now (begin t)) refl refl turn.allowed

  worked_by : TurnCase → is_gone t.call_after.at ≡ false → Worked
  worked_by (dead has_died it) goes_on = never (sym goes_on ∙ (ap (λ (c : PrefCall). is_gone c.at) turn.comes.call ∙ rw it.is refl))
  worked_by (struck lives planned is) goes_on = never (sym goes_on ∙ (ap (λ (c : PrefCall). is_gone c.at) turn.comes.call ∙ rw is refl))
  worked_by (works it) goes_on = it

  -- no death ends a call that goes on
  pub worked : is_gone t.call_after.at ≡ false → Worked
  worked = worked_by turn_case
