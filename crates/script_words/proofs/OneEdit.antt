-- Words are one edit at most.
use Rattle.std.proofs.Common.{◌≡◌, ◌∙◌, inl, inr, ℕ, ℤ, List, [], ◌∷◌, ◌++◌, refl, sym, ap, subst, arith, codes}
use Rattle.std.specs.Fmt.{signed_decimal}
use Rattle.std.specs.Int.{Width, w32, w64}
use Rattle.std.specs.Int.RustNames.{FitsSigned}
use Rattle.std.specs.List.{AllZip}
use Rattle.std.proofs.lemmas.Fmt.{signed_decimal_injective}
use Rattle.prefs_edit.specs.declared.edit_step.EditStep.{EditStep}
use Rattle.prefs_edit.specs.declared.edit_step.EditStep.TheVariants.{Set, Remove, Clear, AddInt, AddLong, Toggle, InsertText, RemoveText, Require}
use Rattle.prefs_model.specs.declared.pref_value.PrefValue.{PrefValue}
use Rattle.prefs_text.specs.Content.{IsContent, IsQuoted}
use Rattle.prefs_text.specs.ValueKind.{kind_name, kind_of}
use Rattle.prefs_text.proofs.OneValue.{one_value}
use Rattle.script_words.specs.EditWords.{AreEditWords, AreManySteps, SpellSteps}
use Rattle.script_words.specs.Keys.{IsKeyWord}
use Rattle.script_words.specs.Parts.{parts_of}
use Rattle.script_words.specs.StepKind.{kind_of_step, step_word}
use Rattle.script_words.specs.StepWords.{AreKey, AreKeyAndAmount, AreKeyAndText, AreKeyAndValue, AreStepWords, Follow}
use Rattle.script_words.proofs.StepNames.{no_step, one_kind}

one_quoted : (word a b : List ℕ) → IsQuoted word a → IsQuoted word b → a ≡ b
one_quoted word a b x y = let same = sym x.reads ∙ y.reads in cc

one_key_word : (word other a b : List ℕ) → word ≡ other → IsKeyWord word a → IsKeyWord other b → a ≡ b
one_key_word word other a b same x y = one_quoted word a b x.quoted (subst (λ w. IsQuoted w b) (sym same) y.quoted)

one_key : (words : List (List ℕ)) (a b : List ℕ) → AreKey words a → AreKey words b → a ≡ b
one_key words a b x y =
    let rows : x.word ∷ [] ≡ y.word ∷ [] = sym x.row ∙ y.row in
    one_key_word x.word y.word a b (cc) x.is_key y.is_key

one_text : (words : List (List ℕ)) (key other a b : List ℕ) → AreKeyAndText words key a → AreKeyAndText words other b → (key ≡ other) × (a ≡ b)
one_text words key other a b x y =
    let rows : x.word ∷ x.quoted ∷ [] ≡ y.word ∷ y.quoted ∷ [] = sym x.row ∙ y.row in
    let second : y.quoted ≡ x.quoted = cc in
    (one_key_word x.word y.word key other (cc) x.is_key y.is_key, one_quoted x.quoted a b x.is_text (subst (λ w. IsQuoted w b) second y.is_text))

one_amount : (width : Width) (words : List (List ℕ)) (key other : List ℕ) (a b : ℤ) → ((z : ℤ) → FitsSigned width z → FitsSigned w64 z)
    → AreKeyAndAmount width words key a → AreKeyAndAmount width words other b → (key ≡ other) × (a ≡ b)
one_amount width words key other a b widens x y =
    let rows : x.word ∷ signed_decimal a ∷ [] ≡ y.word ∷ signed_decimal b ∷ [] = sym x.row ∙ y.row in
    let second : signed_decimal a ≡ signed_decimal b = cc in
    let one = widens a x.fits in
    let two = widens b y.fits in
    (one_key_word x.word y.word key other (cc) x.is_key y.is_key, signed_decimal_injective a b (omega (arith, one.sfits)) (omega (arith, two.sfits)) second)

one_content : (content other : List ℕ) (a b : PrefValue) → kind_name (kind_of a) ≡ kind_name (kind_of b) → content ≡ other → IsContent content a → IsContent other b → a ≡ b
one_content content other a b names same x y =
    one_value (kind_name (kind_of a) ++ codes " " ++ content) a b (record { content = content; words = refl; reads = x })
    (record { content = content; words = ap (λ name. name ++ codes " " ++ content) names; reads = subst (λ c. IsContent c b) (sym same) y })

one_pair : (words : List (List ℕ)) (key other : List ℕ) (a b : PrefValue) → AreKeyAndValue words key a → AreKeyAndValue words other b → (key ≡ other) × (a ≡ b)
one_pair words key other a b x y =
    let rows : x.word ∷ kind_name (kind_of a) ∷ x.content ∷ [] ≡ y.word ∷ kind_name (kind_of b) ∷ y.content ∷ [] = sym x.row ∙ y.row in
    let names : kind_name (kind_of a) ≡ kind_name (kind_of b) = cc in
    let same : x.content ≡ y.content = cc in
    (one_key_word x.word y.word key other (cc) x.is_key y.is_key, one_content x.content y.content a b names same x.is_value y.is_value)

pub int_fits : (z : ℤ) → FitsSigned w32 z → FitsSigned w64 z
int_fits z fits = record { sfits = omega (arith, fits.sfits) }

one_follow : (words : List (List ℕ)) (a b : EditStep) → kind_of_step a ≡ kind_of_step b → Follow words a → Follow words b → a ≡ b
one_follow words (Set key value) (Set other given) kinds x y = let pair = one_pair words key other value given x y in let keys = pair.0 in let values = pair.1 in cc
one_follow words (Set key value) _ kinds x y = absurd (cc)
one_follow words (Remove key) (Remove other) kinds x y = ap Remove (one_key words key other x y)
one_follow words (Remove key) _ kinds x y = absurd (cc)
one_follow words Clear Clear kinds x y = refl
one_follow words Clear _ kinds x y = absurd (cc)
one_follow words (AddInt key amount) (AddInt other given) kinds x y = let pair = one_amount w32 words key other amount given int_fits x y in let keys = pair.0 in let values = pair.1 in cc
one_follow words (AddInt key amount) _ kinds x y = absurd (cc)
one_follow words (AddLong key amount) (AddLong other given) kinds x y = let pair = one_amount w64 words key other amount given (λ z fits. fits) x y in let keys = pair.0 in let values = pair.1 in cc
one_follow words (AddLong key amount) _ kinds x y = absurd (cc)
one_follow words (Toggle key) (Toggle other) kinds x y = ap Toggle (one_key words key other x y)
one_follow words (Toggle key) _ kinds x y = absurd (cc)
one_follow words (InsertText key text) (InsertText other given) kinds x y = let pair = one_text words key other text given x y in let keys = pair.0 in let values = pair.1 in cc
one_follow words (InsertText key text) _ kinds x y = absurd (cc)
one_follow words (RemoveText key text) (RemoveText other given) kinds x y = let pair = one_text words key other text given x y in let keys = pair.0 in let values = pair.1 in cc
one_follow words (RemoveText key text) _ kinds x y = absurd (cc)
one_follow words (Require key value) (Require other given) kinds x y = let pair = one_pair words key other value given x y in let keys = pair.0 in let values = pair.1 in cc
one_follow words (Require key value) _ kinds x y = absurd (cc)

one_step : (words : List (List ℕ)) (a b : EditStep) → AreStepWords words a → AreStepWords words b → a ≡ b
one_step words a b x y =
    let rows : step_word (kind_of_step a) ∷ x.behind ≡ step_word (kind_of_step b) ∷ y.behind = sym x.name ∙ y.name in
    let names : step_word (kind_of_step a) ≡ step_word (kind_of_step b) = cc in
    let same : y.behind ≡ x.behind = cc in
    one_follow x.behind a b (one_kind (kind_of_step a) (kind_of_step b) names) x.follow (subst (λ ws. Follow ws b) same y.follow)

one_zip : {X Y : Type 0} (R : X → Y → Type 0) → ((x : X) (a b : Y) → R x a → R x b → a ≡ b) → (xs : List X) (ys zs : List Y) → AllZip R xs ys → AllZip R xs zs → ys ≡ zs
one_zip R one [] [] [] x y = refl
one_zip R one [] [] (b ∷ zs) x y = absurd y
one_zip R one [] (a ∷ ys) zs x y = absurd x
one_zip R one (x ∷ xs) [] zs all also = absurd all
one_zip R one (x ∷ xs) (a ∷ ys) [] all also = absurd also
one_zip R one (x ∷ xs) (a ∷ ys) (b ∷ zs) all also =
    let heads : a ≡ b = one x a b all.0 also.0 in
    let tails : ys ≡ zs = one_zip R one xs ys zs all.1 also.1 in
    cc

-- `many` is no only step
pub not_many : (words behind : List (List ℕ)) (step : EditStep) → words ≡ codes "many" ∷ behind → AreStepWords words step → ⊥
not_many words behind step many is =
    let rows : step_word (kind_of_step step) ∷ is.behind ≡ codes "many" ∷ behind = sym is.name ∙ many in
    no_step (kind_of_step step) cc

one_several : (words : List (List ℕ)) (a b : List EditStep) → AreManySteps words a → AreManySteps words b → a ≡ b
one_several words a b x y =
    let rows : codes "many" ∷ x.behind ≡ codes "many" ∷ y.behind = sym x.name ∙ y.name in
    let same : y.behind ≡ x.behind = cc in
    one_zip AreStepWords one_step (parts_of x.behind) a b x.follow.each (subst (λ ws. AllZip AreStepWords (parts_of ws) b) same y.follow.each)

pub one_spelling : (words : List (List ℕ)) (a b : List EditStep) → SpellSteps words a → SpellSteps words b → a ≡ b
one_spelling words a b (inl x) (inl y) =
    let steps : x.step ≡ y.step = one_step words x.step y.step x.is_step y.is_step in
    x.alone ∙ ap (λ step. step ∷ []) steps ∙ sym y.alone
one_spelling words a b (inl x) (inr y) = absurd (not_many words y.behind x.step y.name x.is_step)
one_spelling words a b (inr x) (inl y) = absurd (not_many words x.behind y.step x.name y.is_step)
one_spelling words a b (inr x) (inr y) = one_several words a b x y

pub one_edit : (words : List (List ℕ)) (a b : List EditStep) → AreEditWords words a → AreEditWords words b → a ≡ b
one_edit words a b x y = one_spelling words a b x.spelled y.spelled
