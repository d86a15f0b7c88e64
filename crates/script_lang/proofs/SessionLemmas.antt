-- The text of a session in its parts.
use Rattle.std.proofs.Common.{◌≡◌, ◌∙◌, ℕ, List, [], ◌∷◌, ◌++◌, sym, ap, append-nil}
use Rattle.std.specs.Prelude.{map}
use Rattle.std.proofs.lemmas.Grind.{flat_map-append}
use Rattle.prefs_text.specs.declared.names.Names.{Names}
use Rattle.prefs_text.specs.AnswerText.{answer_text}
use Rattle.script_lang.specs.TranscriptText.{line, lines_text, head_lines, entry_lines, end_lines, file_text, session_lines, session_text}
use Rattle.script_lang.specs.TranscriptView.{SessionSeen}

abbrev pub head_part : ℕ → SessionSeen → List ℕ
head_part number session = lines_text (head_lines number session.base)

abbrev pub answers_part : Names → SessionSeen → List ℕ
answers_part names session = lines_text (map (answer_text names) session.answers)

abbrev pub entries_part : Names → SessionSeen → List ℕ
entries_part names session = lines_text (entry_lines names session.entries)

abbrev pub end_part : Names → SessionSeen → List ℕ
end_part names session = lines_text (end_lines names session)

three_parts : (first second third : List (List ℕ)) → (lines_text first ++ lines_text second) ++ lines_text third ≡ lines_text (first ++ second ++ third)
three_parts first second third = sym (flat_map-append line (first ++ second) third ∙ ap (λ (t : List ℕ). t ++ lines_text third) (flat_map-append line first second))

one_more : (first : List (List ℕ)) (last : List ℕ) → lines_text first ++ line last ≡ lines_text (first ++ last ∷ [])
one_more first last = sym (flat_map-append line first (last ∷ []) ∙ ap (λ (t : List ℕ). lines_text first ++ t) (append-nil (line last)))

pub session_parts : (names : Names) (number : ℕ) (session : SessionSeen)
    → (head_part number session ++ answers_part names session) ++ end_part names session ≡ session_text names number session
unfolding session_lines
session_parts names number session = three_parts (head_lines number session.base) (map (answer_text names) session.answers) (end_lines names session)

pub end_parts : (names : Names) (session : SessionSeen) → entries_part names session ++ line (file_text session.file) ≡ end_part names session
end_parts names session = one_more (entry_lines names session.entries) (file_text session.file)
