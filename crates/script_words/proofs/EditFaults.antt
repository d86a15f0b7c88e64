-- Words that are no edit, by the words behind `many` or by the one step.
use Rattle.std.proofs.Common.{◌≡◌, ◌≢◌, ◌∙◌, ◌<◌, ◌≤◌, inl, inr, ℕ, suc, List, [], ◌∷◌, length, get_or, drop, take, ◌-◌, refl, sym, ap, subst, arith, codes}
use Rattle.std.specs.Borrow.{Bor}
use Rattle.std.specs.List.{AllZip}
use Rattle.std.proofs.lemmas.List.{length-map, take_all}
use Rattle.prefs_edit.specs.Edit.{IsEdit, IsRefusalOf}
use Rattle.prefs_edit.specs.declared.edit_error.EditError.{EditError}
use Rattle.prefs_edit.specs.declared.edit_error.EditError.TheVariants.{Count, EditTooLong}
use Rattle.prefs_edit.specs.declared.edit_step.EditStep.{EditStep}
use Rattle.script_words.specs.EditWords.{AreEditWords, AreSeveral, HasUnknown, IsEditFault, IsOnlyStep, SomeHasUnknownWord, SpellSteps}
use Rattle.script_words.specs.Faults.{IsFault}
use Rattle.script_words.specs.Parts.{parts_at, parts_of}
use Rattle.script_words.specs.StepWords.{AreStepWords}
use Rattle.script_words.specs.Unknown.{HasUnknownWord}
use Rattle.script_words.specs.Words.{texts_at}
use Rattle.script_words.specs.declared.words_error.WordsError.{WordsError}
use Rattle.script_words.specs.declared.words_error.WordsError.TheVariants.{UnknownWord, BadValue, NoMemory}
use Rattle.script_words.proofs.OneEdit.{not_many, one_spelling}
use Rattle.script_words.proofs.Unknowns.{many_known, spelled_known}

-- a fault with other causes, which come to the same
fault_as : (unknown bad other worse : Type 0) (error : WordsError) → (unknown → other) → ((unknown → ⊥) → other → ⊥) → (bad → worse) → IsFault unknown bad error → IsFault other worse error
fault_as unknown bad other worse UnknownWord is none also fault = is fault
fault_as unknown bad other worse BadValue is none also fault = (none fault.0, also fault.1)
fault_as unknown bad other worse NoMemory is none also fault = fault

pub many_fault : (words behind : List (List ℕ)) (error : WordsError) → words ≡ codes "many" ∷ behind
    → IsFault (SomeHasUnknownWord behind) ((steps : List EditStep) → ¬ AreSeveral behind steps) error → IsFault (HasUnknown words) ((steps : List EditStep) → ¬ SpellSteps words steps) error
many_fault words behind error many fault =
    fault_as (SomeHasUnknownWord behind) ((steps : List EditStep) → ¬ AreSeveral behind steps) (HasUnknown words) ((steps : List EditStep) → ¬ SpellSteps words steps) error
    (λ some. inr (record { behind = behind; name = many; unknown = some }))
    (λ none has. known none has) (λ none steps spelled. unspelled none steps spelled) fault
  where
    same : (others : List (List ℕ)) → words ≡ codes "many" ∷ others → others ≡ behind
    same others also = let rows : codes "many" ∷ others ≡ codes "many" ∷ behind = sym also ∙ many in cc

    known : (SomeHasUnknownWord behind → ⊥) → HasUnknown words → ⊥
    known none (inl unknown) = many_known words behind many unknown
    known none (inr part) = none (subst SomeHasUnknownWord (same part.behind part.name) part.unknown)

    unspelled : ((steps : List EditStep) → ¬ AreSeveral behind steps) → (steps : List EditStep) → ¬ SpellSteps words steps
    unspelled none steps (inl only) = not_many words behind only.step many only.is_step
    unspelled none steps (inr is) = none steps (subst (λ ws. AreSeveral ws steps) (same is.behind is.name) is.follow)

pub only_fault : (words : List (List ℕ)) (error : WordsError) → ((behind : List (List ℕ)) → words ≡ codes "many" ∷ behind → ⊥)
    → IsFault (HasUnknownWord words) ((steps : List EditStep) → ¬ IsOnlyStep words steps) error → IsFault (HasUnknown words) ((steps : List EditStep) → ¬ SpellSteps words steps) error
only_fault words error other fault =
    fault_as (HasUnknownWord words) ((steps : List EditStep) → ¬ IsOnlyStep words steps) (HasUnknown words) ((steps : List EditStep) → ¬ SpellSteps words steps) error
    (λ unknown. inl unknown) (λ none has. known none has) (λ none steps spelled. unspelled none steps spelled) fault
  where
    known : (HasUnknownWord words → ⊥) → HasUnknown words → ⊥
    known none (inl unknown) = none unknown
    known none (inr part) = other part.behind part.name

    unspelled : ((steps : List EditStep) → ¬ IsOnlyStep words steps) → (steps : List EditStep) → ¬ SpellSteps words steps
    unspelled none steps (inl only) = none steps only
    unspelled none steps (inr is) = other is.behind is.name

-- the steps that the words are make no edit
pub no_edit : (words : List (List ℕ)) (steps : List EditStep) → SpellSteps words steps → (IsEdit steps → ⊥) → IsEditFault words BadValue
no_edit words steps spelled none =
    (spelled_known words steps spelled, λ edit are. none (subst IsEdit (one_spelling words edit steps are.spelled spelled) are.is_edit))

refused : (steps : List EditStep) (error : EditError) → IsRefusalOf steps error → IsEdit steps → ⊥
refused steps (Count count) is edit = elim is.1 [ inl none ↦ omega (arith, none, edit.count.some) | inr more ↦ omega (arith, more, edit.count.few) ]
refused steps (EditTooLong weight) is edit = omega (arith, is.1, edit.weight)

pub refused_edit : (words : List (List ℕ)) (steps : List EditStep) (error : EditError) → SpellSteps words steps → IsRefusalOf steps error → IsEditFault words BadValue
refused_edit words steps error spelled is = no_edit words steps spelled (refused steps error is)

-- words that are no steps are no edit
pub unspelled_edit : (words : List (List ℕ)) (error : WordsError) → IsFault (HasUnknown words) ((steps : List EditStep) → ¬ SpellSteps words steps) error → IsEditFault words error
unspelled_edit words error fault =
    fault_as (HasUnknown words) ((steps : List EditStep) → ¬ SpellSteps words steps) (HasUnknown words) ((edit : List EditStep) → ¬ AreEditWords words edit) error
    (λ unknown. unknown) (λ none. none) (λ none edit are. none edit are.spelled) fault

-- ---- the first word

-- the first of some words, and those behind it
pub first_is : (words : List (Bor (List ℕ))) (other : Bor (List ℕ)) (name : List ℕ) → 1 ≤ length words → (get_or words 0 other).now ≡ name
    → texts_at words ≡ name ∷ texts_at (take (length words - 1) (drop 1 words))
first_is [] other name some is = absurd (omega arith)
first_is (word ∷ words) other name some is =
    let all : take (length (word ∷ words) - 1) words ≡ words = take_all (length (word ∷ words) - 1) words (omega arith) in
    ap (λ text. text ∷ texts_at words) is ∙ ap (λ rest. name ∷ texts_at rest) (sym all)

pub first_is_not : (words : List (Bor (List ℕ))) (other : Bor (List ℕ)) (name : List ℕ) → 1 ≤ length words → (get_or words 0 other).now ≢ name
    → (behind : List (List ℕ)) → texts_at words ≡ name ∷ behind → ⊥
first_is_not [] other name some differs behind parts = omega arith
first_is_not (word ∷ words) other name some differs behind parts = differs cc

pub first_is_none : (words : List (Bor (List ℕ))) (name : List ℕ) → length words < 1 → (behind : List (List ℕ)) → texts_at words ≡ name ∷ behind → ⊥
first_is_none [] name none behind parts = cc
first_is_none (word ∷ words) name none behind parts = omega arith

-- ---- as many steps as parts

length-zip : {X Y : Type 0} (R : X → Y → Type 0) (xs : List X) (ys : List Y) → AllZip R xs ys → length xs ≡ length ys
length-zip R [] [] all = refl
length-zip R [] (y ∷ ys) all = absurd all
length-zip R (x ∷ xs) [] all = absurd all
length-zip R (x ∷ xs) (y ∷ ys) all = ap suc (length-zip R xs ys all.1)

-- fewer than two parts are not several steps
pub few_parts : (words : List (List ℕ)) (parts : List (Bor (List (Bor (List ℕ))))) → parts_at parts ≡ parts_of words → length parts < 2
    → (steps : List EditStep) → ¬ AreSeveral words steps
few_parts words parts same few steps several =
    let as_many : length (parts_of words) ≡ length steps = length-zip AreStepWords (parts_of words) steps several.each in
    let count : length (parts_at parts) ≡ length parts = length-map parts (λ (part : Bor (List (Bor (List ℕ)))). texts_at part.now) in
    absurd (omega (arith, several.several, ap length same))

pub several_parts : (words : List (List ℕ)) (parts : List (Bor (List (Bor (List ℕ))))) → parts_at parts ≡ parts_of words → 2 ≤ length parts
    → (steps : List EditStep) → AllZip AreStepWords (parts_at parts) steps → AreSeveral words steps
several_parts words parts same enough steps all =
    let as_many : length (parts_at parts) ≡ length steps = length-zip AreStepWords (parts_at parts) steps all in
    let count : length (parts_at parts) ≡ length parts = length-map parts (λ (part : Bor (List (Bor (List ℕ)))). texts_at part.now) in
    record { several = omega arith; each = subst (λ seen. AllZip AreStepWords seen steps) same all }
