-- Parts and their steps, one by one.
use Rattle.std.proofs.Common.{◌≡◌, ◌∙◌, ◌<◌, ◌+◌, ℕ, zero, suc, List, [], ◌∷◌, ◌++◌, length, get_or, take, sym, ap, subst, arith}
use Rattle.std.specs.Borrow.{Bor}
use Rattle.std.specs.List.{AllZip}
use Rattle.std.proofs.lemmas.List.{map-append, take_more}
use Rattle.prefs_edit.specs.declared.edit_step.EditStep.{EditStep}
use Rattle.script_words.specs.EditWords.{IsOnlyStep}
use Rattle.script_words.specs.Faults.{IsBadOrNoMemory, IsFault}
use Rattle.script_words.specs.Parts.{parts_at}
use Rattle.script_words.specs.StepWords.{AreStepWords}
use Rattle.script_words.specs.Unknown.{HasUnknownWord}
use Rattle.script_words.specs.Words.{texts_at}
use Rattle.script_words.specs.declared.words_error.WordsError.{WordsError}
use Rattle.script_words.specs.declared.words_error.WordsError.TheVariants.{UnknownWord, BadValue, NoMemory}

-- words that are no step, and have no unknown word, are no only step
pub no_only_step : (words : List (List ℕ)) (error : WordsError) → (HasUnknownWord words → ⊥) → IsBadOrNoMemory ((step : EditStep) → ¬ AreStepWords words step) error
    → IsFault (HasUnknownWord words) ((steps : List EditStep) → ¬ IsOnlyStep words steps) error
no_only_step words UnknownWord known is = absurd is
no_only_step words BadValue known is = (known, λ steps only. is only.step only.is_step)
no_only_step words NoMemory known is = is

zip_push : {X Y : Type 0} (R : X → Y → Type 0) (xs : List X) (ys : List Y) (x : X) (y : Y) → AllZip R xs ys → R x y → AllZip R (xs ++ x ∷ []) (ys ++ y ∷ [])
zip_push R [] [] x y all one = (one, tt)
zip_push R [] (b ∷ ys) x y all one = absurd all
zip_push R (a ∷ xs) [] x y all one = absurd all
zip_push R (a ∷ xs) (b ∷ ys) x y all one = (all.0, zip_push R xs ys x y all.1 one)

-- one more part is a step
pub steps_more : (parts : List (Bor (List (Bor (List ℕ))))) (steps : List EditStep) (place : ℕ) (part : Bor (List (Bor (List ℕ)))) (step : EditStep) → place < length parts
    → AllZip AreStepWords (parts_at (take place parts)) steps → AreStepWords (texts_at (get_or parts place part).now) step
    → AllZip AreStepWords (parts_at (take (place + 1) parts)) (steps ++ step ∷ [])
steps_more parts steps place part step within so_far one =
    let longer : parts_at (take (place + 1) parts) ≡ parts_at (take place parts) ++ texts_at (get_or parts place part).now ∷ [] =
    ap parts_at (take_more parts place part within) ∙ map-append (λ (part : Bor (List (Bor (List ℕ)))). texts_at part.now) (take place parts) (get_or parts place part ∷ []) in
    subst (λ seen. AllZip AreStepWords seen (steps ++ step ∷ [])) (sym longer) (zip_push AreStepWords (parts_at (take place parts)) steps (texts_at (get_or parts place part).now) step so_far one)

-- with a part that is no step, the parts are no steps
pub no_steps : (parts : List (Bor (List (Bor (List ℕ))))) (place : ℕ) (part : Bor (List (Bor (List ℕ)))) → place < length parts
    → ((step : EditStep) → ¬ AreStepWords (texts_at (get_or parts place part).now) step) → (steps : List EditStep) → ¬ AllZip AreStepWords (parts_at parts) steps
no_steps [] place part within none steps all = absurd (omega arith)
no_steps (first ∷ parts) place part within none [] all = all
no_steps (first ∷ parts) zero part within none (step ∷ steps) all = none step all.0
no_steps (first ∷ parts) (suc place) part within none (step ∷ steps) all = no_steps parts place part (omega arith) none steps all.1
