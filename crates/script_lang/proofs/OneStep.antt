-- Each step by its word.
use Rattle.std.proofs.Common.{ℕ, ◌≡◌, ◌==◌, ◌+◌, ◌*◌, ◌∙◌, nat_lt, List, cond, ap, sym, refl}
use Rattle.std.specs.Prelude.{slice_index}
use Rattle.store_traits.specs.declared.step.Step.{Step}
use Rattle.store_traits.specs.declared.step.Step.TheVariants.{I1, I2, I3, I4, I5, I6, U1, U2, U3, U4, U5, U6, U7, U8, V1, V2, V3, P1, P2, R1}
use Rattle.script_lang.specs.DeathSteps.{step_text}

-- a step by its letter and its digit
code_of : List ℕ → ℕ
code_of text = 8 * slice_index text 0 + slice_index text 1

first_steps : ℕ → Step
first_steps code = cond (code == 633) I1 (cond (code == 634) I2 (cond (code == 635) I3 (cond (code == 636) I4 (cond (code == 637) I5 I6))))

update_steps : ℕ → Step
update_steps code = cond (code == 729) U1 (cond (code == 730) U2 (cond (code == 731) U3 (cond (code == 732) U4 (cond (code == 733) U5 (cond (code == 734) U6 (cond (code == 735) U7 U8))))))

step_at : ℕ → Step
step_at code = cond (code == 689) P1 (cond (code == 690) P2 (cond (code == 705) R1 (cond (code == 737) V1 (cond (code == 738) V2 (cond (code == 739) V3 (cond (nat_lt code 700) (first_steps code) (update_steps code)))))))

step_at-code : (step : Step) → step_at (code_of (step_text step)) ≡ step
unfolding step_at first_steps update_steps code_of
step_at-code I1 = refl
step_at-code I2 = refl
step_at-code I3 = refl
step_at-code I4 = refl
step_at-code I5 = refl
step_at-code I6 = refl
step_at-code U1 = refl
step_at-code U2 = refl
step_at-code U3 = refl
step_at-code U4 = refl
step_at-code U5 = refl
step_at-code U6 = refl
step_at-code U7 = refl
step_at-code U8 = refl
step_at-code V1 = refl
step_at-code V2 = refl
step_at-code V3 = refl
step_at-code P1 = refl
step_at-code P2 = refl
step_at-code R1 = refl

pub one_step : (a b : Step) → step_text a ≡ step_text b → a ≡ b
one_step a b e = sym (step_at-code a) ∙ ap (λ text. step_at (code_of text)) e ∙ step_at-code b
