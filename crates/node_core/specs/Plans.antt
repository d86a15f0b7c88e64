-- How far an update has written its plan, by its next step.
use Rattle.std.specs.Prelude.{◌≡◌, ◌≤◌, [], length}
use Rattle.step_table.specs.Calls.{At, Plan, Raising, Writing, Stage, Creating, Appending, SyncingScratch, Renaming}
use Rattle.node_core.specs.Own.{WritesEdit}

module _ {V T : Type 0} where
  -- the change that an update writes is an edit
  pub record HasEdit (plan : Plan V T) : Type 0 where
    pub edit : T
    pub is : WritesEdit edit plan

  pub record IsUnwritten (plan : Plan V T) : Type 0 where
    pub asked : HasEdit plan
    pub nothing : plan.text.written ≡ []

  pub record IsFilling (plan : Plan V T) : Type 0 where
    pub asked : HasEdit plan
    pub left : 1 ≤ length plan.text.rest

  pub record IsFilled (plan : Plan V T) : Type 0 where
    pub asked : HasEdit plan
    pub nothing_left : plan.text.rest ≡ []

  abbrev pub PlanBy : Stage → Plan V T → Type 0
  PlanBy Creating plan = IsUnwritten plan
  PlanBy Appending plan = IsFilling plan
  PlanBy SyncingScratch plan = IsFilled plan
  PlanBy Renaming plan = IsFilled plan

  abbrev pub PlanAt : At V T → Type 0
  PlanAt (Raising plan) = IsUnwritten plan
  PlanAt (Writing stage plan) = PlanBy stage plan
  PlanAt other = Unit {0}
