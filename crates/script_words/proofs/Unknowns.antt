-- Words with an unknown word, and words that are steps.
use Rattle.std.proofs.Common.{◌≡◌, ◌∙◌, ◌⊎◌, ◌<◌, inl, inr, ℕ, zero, suc, List, [], ◌∷◌, length, get_or, sym, subst, arith, codes}
use Rattle.std.specs.List.{AllZip}
use Rattle.prefs_edit.specs.declared.edit_step.EditStep.{EditStep}
use Rattle.prefs_edit.specs.declared.edit_step.EditStep.TheVariants as step
use Rattle.prefs_model.specs.declared.pref_value.PrefValue.{PrefValue}
use Rattle.prefs_text.specs.ValueKind.{kind_name, kind_of}
use Rattle.script_words.specs.EditWords.{AreEditWords, HasUnknown, SomeHasUnknownWord, SpellSteps}
use Rattle.script_words.specs.Parts.{parts_of}
use Rattle.script_words.specs.StepKind.{kind_of_step, step_word}
use Rattle.script_words.specs.StepWords.{AreKeyAndValue, AreStepWords, Follow}
use Rattle.script_words.specs.Unknown.{HasUnknownKind, HasUnknownWord}
use Rattle.script_words.specs.declared.step_kind.StepKind.TheVariants.{Set, Require}
use Rattle.script_words.proofs.OneEdit.{not_many}
use Rattle.script_words.proofs.StepNames.{no_step, one_kind}

-- behind a key and a value stands no unknown kind
row_known : (words : List (List ℕ)) (key : List ℕ) (value : PrefValue) → AreKeyAndValue words key value → HasUnknownKind words → ⊥
row_known words key value row unknown =
    let rows : unknown.key ∷ unknown.kind ∷ unknown.rest ≡ row.word ∷ kind_name (kind_of value) ∷ row.content ∷ [] = sym unknown.row ∙ row.row in
    unknown.unknown (kind_of value) cc

takes_value : (words : List (List ℕ)) (step : EditStep) → (kind_of_step step ≡ Set) ⊎ (kind_of_step step ≡ Require) → Follow words step → HasUnknownKind words → ⊥
takes_value words (step.Set key value) takes follow unknown = row_known words key value follow unknown
takes_value words (step.Require key value) takes follow unknown = row_known words key value follow unknown
takes_value words (step.Remove key) takes follow unknown = elim takes [ inl e ↦ cc | inr e ↦ cc ]
takes_value words step.Clear takes follow unknown = elim takes [ inl e ↦ cc | inr e ↦ cc ]
takes_value words (step.AddInt key amount) takes follow unknown = elim takes [ inl e ↦ cc | inr e ↦ cc ]
takes_value words (step.AddLong key amount) takes follow unknown = elim takes [ inl e ↦ cc | inr e ↦ cc ]
takes_value words (step.Toggle key) takes follow unknown = elim takes [ inl e ↦ cc | inr e ↦ cc ]
takes_value words (step.InsertText key text) takes follow unknown = elim takes [ inl e ↦ cc | inr e ↦ cc ]
takes_value words (step.RemoveText key text) takes follow unknown = elim takes [ inl e ↦ cc | inr e ↦ cc ]

step_known : (words : List (List ℕ)) (step : EditStep) → AreStepWords words step → HasUnknownWord words → ⊥
step_known words step is unknown =
    let rows : unknown.name ∷ unknown.behind ≡ step_word (kind_of_step step) ∷ is.behind = sym unknown.row ∙ is.name in
    let name : unknown.name ≡ step_word (kind_of_step step) = cc in
    let behind : unknown.behind ≡ is.behind = cc in
    elim unknown.unknown [
      | inl none ↦ none.1 (kind_of_step step) name
      | inr takes ↦
          let kind : (kind_of_step step ≡ Set) ⊎ (kind_of_step step ≡ Require) = elim takes.0 [
            | inl set ↦ inl (one_kind (kind_of_step step) Set (sym name ∙ set))
            | inr require ↦ inr (one_kind (kind_of_step step) Require (sym name ∙ require))
          ] in
          takes_value is.behind step kind is.follow (subst HasUnknownKind behind takes.1)
    ]

zip_none : {X Y : Type 0} (R : X → Y → Type 0) (P : X → Type 0) → ((x : X) (y : Y) → R x y → P x → ⊥) → (xs : List X) (ys : List Y) → AllZip R xs ys
    → (k : ℕ) (x : X) → k < length xs → get_or xs k x ≡ x → P x → ⊥
zip_none R P never [] ys all k x within at holds = omega arith
zip_none R P never (first ∷ xs) [] all k x within at holds = all
zip_none R P never (first ∷ xs) (y ∷ ys) all zero x within at holds = never first y all.0 (subst P (sym at) holds)
zip_none R P never (first ∷ xs) (y ∷ ys) all (suc k) x within at holds = zip_none R P never xs ys all.1 k x (omega arith) at holds

-- `many` is no unknown word, and takes no kind
pub many_known : (words behind : List (List ℕ)) → words ≡ codes "many" ∷ behind → HasUnknownWord words → ⊥
many_known words behind many unknown =
    let rows : unknown.name ∷ unknown.behind ≡ codes "many" ∷ behind = sym unknown.row ∙ many in
    let name : unknown.name ≡ codes "many" = cc in
    elim unknown.unknown [
      | inl none ↦ none.0 name
      | inr takes ↦ elim takes.0 [ inl set ↦ no_step Set (sym set ∙ name) | inr require ↦ no_step Require (sym require ∙ name) ]
    ]

parts_known : (words : List (List ℕ)) (steps : List EditStep) → AllZip AreStepWords (parts_of words) steps → SomeHasUnknownWord words → ⊥
parts_known words steps all some = zip_none AreStepWords HasUnknownWord step_known (parts_of words) steps all some.0 some.1 some.2 some.3 some.4

pub spelled_known : (words : List (List ℕ)) (steps : List EditStep) → SpellSteps words steps → HasUnknown words → ⊥
spelled_known words steps (inl only) (inl unknown) = step_known words only.step only.is_step unknown
spelled_known words steps (inl only) (inr part) = not_many words part.behind only.step part.name only.is_step
spelled_known words steps (inr many) (inl unknown) = many_known words many.behind many.name unknown
spelled_known words steps (inr many) (inr part) =
    let rows : codes "many" ∷ many.behind ≡ codes "many" ∷ part.behind = sym many.name ∙ part.name in
    let same : part.behind ≡ many.behind = cc in
    parts_known many.behind steps many.follow.each (subst SomeHasUnknownWord same part.unknown)

pub edit_known : (words : List (List ℕ)) (edit : List EditStep) → AreEditWords words edit → HasUnknown words → ⊥
edit_known words edit are = spelled_known words edit are.spelled
