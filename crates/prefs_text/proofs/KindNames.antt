-- A kind's name is the kind's alone, and has no space.
use Rattle.std.proofs.Common.{◌≡◌, ◌≢◌, ◌∙◌, ◌==◌, ◌+◌, ◌<◌, ℕ, suc, List, [], ◌∷◌, ◌++◌, length, get_or, cond, ap, sym, refl, arith, append_assoc}
use Rattle.std.specs.Prelude.{slice_index, codes}
use Rattle.std.specs.List.{position_or_len}
use Rattle.std.proofs.lemmas.List.Sums.{fails_before_first}
use Rattle.std.proofs.lemmas.Bool.{false≢true}
use Rattle.prefs_text.specs.declared.value_kind.ValueKind.{ValueKind}
use Rattle.prefs_text.specs.declared.value_kind.ValueKind.TheVariants.{Bool, Int, Long, Float, Double, Text, Texts}
use Rattle.prefs_text.specs.ValueKind.{kind_name}

-- the kind by its name's first letter and length
kind_at : ℕ → ValueKind
kind_at code = cond (code == 102) Bool (cond (code == 108) Int (cond (code == 112) Long (cond (code == 107) Float (cond (code == 106) Double (cond (code == 120) Text Texts)))))

code_of : List ℕ → ℕ
code_of name = slice_index name 0 + length name

kind_at-name : (kind : ValueKind) → kind_at (code_of (kind_name kind)) ≡ kind
unfolding kind_at code_of
kind_at-name Bool = refl
kind_at-name Int = refl
kind_at-name Long = refl
kind_at-name Float = refl
kind_at-name Double = refl
kind_at-name Text = refl
kind_at-name Texts = refl

pub one_kind : (a b : ValueKind) → kind_name a ≡ kind_name b → a ≡ b
one_kind a b e = sym (kind_at-name a) ∙ ap (λ name. kind_at (code_of name)) e ∙ kind_at-name b

name_to_its_end : (kind : ValueKind) → position_or_len (λ byte. byte == 32) (kind_name kind) ≡ length (kind_name kind)
name_to_its_end Bool = refl
name_to_its_end Int = refl
name_to_its_end Long = refl
name_to_its_end Float = refl
name_to_its_end Double = refl
name_to_its_end Text = refl
name_to_its_end Texts = refl

pub no_space : (kind : ValueKind) (place : ℕ) → place < length (kind_name kind) → get_or (kind_name kind) place 0 ≢ 32
no_space kind place within e =
    let fails = fails_before_first (λ byte. byte == 32) (kind_name kind) place 0 (rw (name_to_its_end kind) within) in
    let differs = rw e at fails in
    absurd (false≢true (sym differs))

-- a text has one word before its first space
one_word : (first other rest more : List ℕ) → ((place : ℕ) → place < length first → get_or first place 0 ≢ 32) → ((place : ℕ) → place < length other → get_or other place 0 ≢ 32)
    → first ++ 32 ∷ rest ≡ other ++ 32 ∷ more → (first ≡ other) × (rest ≡ more)
one_word [] [] rest more none also e = (refl, cc)
one_word [] (x ∷ other) rest more none also e = absurd (also 0 (omega arith) cc)
one_word (x ∷ first) [] rest more none also e = absurd (none 0 (omega arith) cc)
one_word (x ∷ first) (y ∷ other) rest more none also e =
    let same = one_word first other rest more (λ place within. none (suc place) (omega arith)) (λ place within. also (suc place) (omega arith)) cc in
    (cc, same.1)

pub one_cut : (a b : ValueKind) (rest more : List ℕ) → kind_name a ++ codes " " ++ rest ≡ kind_name b ++ codes " " ++ more → (a ≡ b) × (rest ≡ more)
one_cut a b rest more e =
    let words = one_word (kind_name a) (kind_name b) rest more (no_space a) (no_space b) (sym (append_assoc (kind_name a) (codes " ") rest) ∙ e ∙ append_assoc (kind_name b) (codes " ") more) in
    (one_kind a b words.0, words.1)
