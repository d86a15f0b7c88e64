-- A word says one file.
use Rattle.std.proofs.Common.{ℕ, ◌≡◌, ◌∙◌, List, Ok, ap, sym, refl, ⊎_elim}
use Rattle.std.specs.Prelude.{codes}
use Rattle.hex.specs.Hex.{decode_of, decode_pairs}
use Rattle.hex.proofs.HexLemmas.{decode_of-encode_lower}
use Rattle.hex.proofs.OnLiterals.{hex_on_literals}
use Rattle.folder_disk.specs.declared.main_read.MainRead.{MainRead}
use Rattle.folder_disk.specs.declared.main_read.MainRead.TheVariants.{Absent, Bytes}
use Rattle.script_lang.specs.Rows.{IsFileWord, SpellsBytes}

one_bytes : (word a b : List ℕ) → SpellsBytes word a → SpellsBytes word b → a ≡ b
one_bytes word a b spelled also =
    let same : Ok a ≡ Ok b = sym (decode_of-encode_lower a spelled.are_bytes) ∙ ap decode_of (sym spelled.digits ∙ also.digits) ∙ decode_of-encode_lower b also.are_bytes in
    cc

no_digits : (word bytes : List ℕ) → SpellsBytes word bytes → word ≡ codes "none" → ⊥
unfolding hex_on_literals decode_pairs
no_digits word bytes spelled is =
    let same : decode_of (codes "none") ≡ Ok bytes = ap decode_of (sym is ∙ spelled.digits) ∙ decode_of-encode_lower bytes spelled.are_bytes in
    cc

odd_digits : (word bytes : List ℕ) → SpellsBytes word bytes → word ≡ codes "empty" → ⊥
unfolding hex_on_literals decode_pairs
odd_digits word bytes spelled is =
    let same : decode_of (codes "empty") ≡ Ok bytes = ap decode_of (sym is ∙ spelled.digits) ∙ decode_of-encode_lower bytes spelled.are_bytes in
    cc

two_words : (word : List ℕ) → word ≡ codes "none" → word ≡ codes "empty" → ⊥
two_words word none empty = cc

pub one_file : (word : List ℕ) (a b : MainRead) → IsFileWord word a → IsFileWord word b → a ≡ b
one_file word Absent Absent none also = refl
one_file word Absent (Bytes bytes) none also = ⊎_elim (λ empty. absurd (two_words word none empty.1)) (λ spelled. absurd (no_digits word bytes spelled none)) also
one_file word (Bytes bytes) Absent some none = ⊎_elim (λ empty. absurd (two_words word none empty.1)) (λ spelled. absurd (no_digits word bytes spelled none)) some
one_file word (Bytes a) (Bytes b) some also =
    ap Bytes (⊎_elim
    (λ empty. ⊎_elim (λ other. empty.0 ∙ sym other.0) (λ spelled. absurd (odd_digits word b spelled empty.1)) also)
    (λ spelled. ⊎_elim (λ empty. absurd (odd_digits word a spelled empty.1)) (λ other. one_bytes word a b spelled other) also) some)
