-- A step's name is its kind's alone.
use Rattle.std.proofs.Common.{◌≡◌, ◌≢◌, ◌∙◌, ◌==◌, ◌+◌, ◌*◌, ℕ, List, length, cond, ap, sym, refl, arith}
use Rattle.std.specs.Prelude.{codes, slice_index}
use Rattle.script_words.specs.StepKind.{step_word}
use Rattle.script_words.specs.declared.step_kind.StepKind.{StepKind}
use Rattle.script_words.specs.declared.step_kind.StepKind.TheVariants.{Set, Remove, Clear, AddInt, AddLong, Toggle, InsertText, RemoveText, Require}

-- the kind by its name's first letter and length
code_of : List ℕ → ℕ
code_of name = slice_index name 0 + 16 * length name

kind_at : ℕ → StepKind
kind_at code =
    cond (code == 163) Set (cond (code == 210) Remove (cond (code == 179) Clear (cond (code == 193) AddInt (cond (code == 209) AddLong
    (cond (code == 212) Toggle (cond (code == 201) InsertText (cond (code == 181) RemoveText Require)))))))

kind_at-word : (kind : StepKind) → kind_at (code_of (step_word kind)) ≡ kind
unfolding kind_at code_of
kind_at-word Set = refl
kind_at-word Remove = refl
kind_at-word Clear = refl
kind_at-word AddInt = refl
kind_at-word AddLong = refl
kind_at-word Toggle = refl
kind_at-word InsertText = refl
kind_at-word RemoveText = refl
kind_at-word Require = refl

pub one_kind : (a b : StepKind) → step_word a ≡ step_word b → a ≡ b
one_kind a b e = sym (kind_at-word a) ∙ ap (λ word. kind_at (code_of word)) e ∙ kind_at-word b

-- `many` names no step
pub no_step : (kind : StepKind) → step_word kind ≢ codes "many"
unfolding code_of
no_step Set e = let codes : code_of (step_word Set) ≡ code_of (codes "many") = ap code_of e in omega arith
no_step Remove e = let codes : code_of (step_word Remove) ≡ code_of (codes "many") = ap code_of e in omega arith
no_step kind e = let codes : code_of (step_word kind) ≡ code_of (codes "many") = ap code_of e in omega arith
