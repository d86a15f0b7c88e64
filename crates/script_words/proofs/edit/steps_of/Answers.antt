-- The first word is `many`, or it is not.
use Rattle.std.proofs.Common.{◌≡◌, ◌≢◌, ◌-◌, ◌∷◌, [], List, ℕ, drop, get_or, length, take, codes, inr, rules}
use Rattle.std.specs.Borrow.{Bor}
use Rattle.std.proofs.lemmas.Result.{IfErr-weaker, IfOk-weaker}
use Rattle.script_words.specs.Words.{texts_at}
use Rattle.script_words.proofs.EditFaults.{first_is, first_is_none, first_is_not, many_fault, only_fault}
use Rattle.script_words.proofs.edit.steps_of.Goals as goal
use Rattle.script_words.proofs.edit.steps_of.Goals.{in_default-via-then-words-lt1, in_default-via-in-len1-up+else-eq}

nothing : Bor (List ℕ)
nothing = record { ref_ptr = (0, 0); now = [] }

pub returns-in-len1-up-clause-ok : goal.returns-in-len1-up-clause-ok
unfolding nothing
returns-in-len1-up-clause-ok c =
    let words = c.args.words.now in
    let name : (get_or words 0 nothing).now ≡ codes "many" = search rules in
    let many = first_is words nothing (codes "many") c.in-len1-up.len_at_least name in
    IfOk-weaker c.many_steps.result _ _ (λ steps several. inr (record { behind = texts_at (take (length words - 1) (drop 1 words)); name = many; follow = several })) c.many_steps.ensures.ok

pub returns-in-len1-up-clause-err : goal.returns-in-len1-up-clause-err
unfolding nothing
returns-in-len1-up-clause-err c =
    let words = c.args.words.now in
    let name : (get_or words 0 nothing).now ≡ codes "many" = search rules in
    let many = first_is words nothing (codes "many") c.in-len1-up.len_at_least name in
    IfErr-weaker c.many_steps.result _ _ (λ error fault. many_fault (texts_at words) (texts_at (take (length words - 1) (drop 1 words))) error many fault) c.many_steps.ensures.err

pub returns-in_default-clause-err : goal.returns-in_default-clause-err
unfolding nothing
returns-in_default-clause-err c =
    let words = c.args.words.now in
    let other : (behind : List (List ℕ)) → texts_at words ≡ codes "many" ∷ behind → ⊥ = elim c.in_default.branch [
      | in_default-via-then-words-lt1 w ↦ first_is_none words (codes "many") (search rules)
      | in_default-via-in-len1-up+else-eq w ↦
          let differs : (get_or words 0 nothing).now ≢ codes "many" = search rules in
          first_is_not words nothing (codes "many") w.in-len1-up.len_at_least differs
    ] in
    IfErr-weaker c.only_step.result _ _ (λ error fault. only_fault (texts_at words) error other fault) c.only_step.ensures.err
