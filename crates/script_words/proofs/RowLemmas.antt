-- Rows whose words cannot be read.
use Rattle.std.proofs.Common.{◌≡◌, ◌<◌, ◌≤◌, ℕ, List, [], ◌∷◌, length, get_or, subst, arith}
use Rattle.std.specs.Borrow.{Bor}
use Rattle.prefs_text.specs.Content.{IsQuoted}
use Rattle.script_words.specs.StepWords.{AreKeyAndText}
use Rattle.script_words.specs.Words.{texts_at}

-- where the second of two words quotes no text, they are no key and text
pub no_text : (words : List (Bor (List ℕ))) (other : Bor (List ℕ)) → 2 ≤ length words → length words < 3 → ((text : List ℕ) → ¬ IsQuoted (get_or words 1 other).now text)
    → (key text : List ℕ) → ¬ AreKeyAndText (texts_at words) key text
no_text [] other least most none key text row = absurd (omega arith)
no_text (a ∷ []) other least most none key text row = absurd (omega arith)
no_text (a ∷ b ∷ []) other least most none key text row =
    let same : a.now ∷ b.now ∷ [] ≡ row.word ∷ row.quoted ∷ [] = row.row in
    let second : row.quoted ≡ b.now = cc in
    none text (subst (λ word. IsQuoted word text) second row.is_text)
no_text (a ∷ b ∷ c ∷ rest) other least most none key text row = absurd (omega arith)
