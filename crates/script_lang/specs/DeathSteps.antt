-- The steps before which a node can die, and the words for them.
use Rattle.std.specs.Prelude.{◌≡◌, ℕ, Bool, true, false, List, codes}
use Rattle.store_traits.specs.declared.step.Step.{Step}
use Rattle.store_traits.specs.declared.step.Step.TheVariants.{I1, I2, I3, I4, I5, I6, U1, U2, U3, U4, U5, U6, U7, U8, V1, V2, V3, P1, P2, R1}

-- a look in a cache is no turn, and a restart tells of deaths alone
abbrev pub can_die_at : Step → Bool
can_die_at V1 = false
can_die_at R1 = false
can_die_at other = true

abbrev pub step_text : Step → List ℕ
step_text I1 = codes "I1"
step_text I2 = codes "I2"
step_text I3 = codes "I3"
step_text I4 = codes "I4"
step_text I5 = codes "I5"
step_text I6 = codes "I6"
step_text U1 = codes "U1"
step_text U2 = codes "U2"
step_text U3 = codes "U3"
step_text U4 = codes "U4"
step_text U5 = codes "U5"
step_text U6 = codes "U6"
step_text U7 = codes "U7"
step_text U8 = codes "U8"
step_text V1 = codes "V1"
step_text V2 = codes "V2"
step_text V3 = codes "V3"
step_text P1 = codes "P1"
step_text P2 = codes "P2"
step_text R1 = codes "R1"

-- the word for such a step
pub record IsStepWord (word : List ℕ) : Type 0 where
  pub step : Step
  pub can : can_die_at step ≡ true
  pub is : word ≡ step_text step
