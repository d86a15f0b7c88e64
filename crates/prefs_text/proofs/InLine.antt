-- What is printed of texts has no blanks that break a line.
use Rattle.std.proofs.Common.{◌≡◌, ◌≢◌, ◌∙◌, ◌<◌, ◌==◌, ◌&&◌, ℕ, zero, suc, List, [], ◌∷◌, ◌++◌, Bool, true, false, inl, inr, sym, refl, subst, arith}
use Rattle.std.specs.Prelude.{All, not, codes}
use Rattle.std.specs.List.{flat_map, list_all, join_by}
use Rattle.std.proofs.lemmas.Bool.{and_parts, cases_lt, false≢true}
use Rattle.std.proofs.lemmas.List.Elements.{All-append, All-nil, All-cons}
use Rattle.json.specs.Print.{escape, escape_byte, quoted}
use Rattle.json.proofs.Printed.Strings.{escape_byte_plain}
use Rattle.prefs_text.specs.Content.{IsInLine}
use Rattle.prefs_text.specs.ValueText.{list_text}

unfoldable pub in_line : ℕ → Bool
in_line byte = not (byte == 9) && (not (byte == 10) && not (byte == 13))

-- the test of what is printed of the bytes below n
escapes_in_line : ℕ → Bool
escapes_in_line zero = true
escapes_in_line (suc n) = list_all in_line (escape_byte n) && escapes_in_line n

low_escapes_in_line : escapes_in_line 93 ≡ true
unfolding escapes_in_line in_line escape_byte
low_escapes_in_line = refl

IsInLine-from_test : (byte : ℕ) → in_line byte ≡ true → IsInLine byte
unfolding in_line
IsInLine-from_test byte h =
    let but : (blank : ℕ) → in_line blank ≡ false → byte ≢ blank = λ blank no e. false≢true (sym no ∙ subst (λ b. in_line b ≡ true) e h) in
    (but 9 refl, but 10 refl, but 13 refl)

pub All-from_test : (bytes : List ℕ) → list_all in_line bytes ≡ true → All IsInLine bytes
All-from_test [] h = All-nil IsInLine
All-from_test (byte ∷ bytes) h =
    let parts = and_parts (in_line byte) (list_all in_line bytes) h in
    All-cons IsInLine byte bytes (IsInLine-from_test byte parts.0) (All-from_test bytes parts.1)

low_escape : (n byte : ℕ) → escapes_in_line n ≡ true → byte < n → list_all in_line (escape_byte byte) ≡ true
unfolding escapes_in_line
low_escape zero byte h below = absurd (omega arith)
low_escape (suc n) byte h below =
    let parts = and_parts (list_all in_line (escape_byte n)) (escapes_in_line n) h in
    elim (cases_lt byte n) [
      | inl less ↦ low_escape n byte parts.1 less
      | inr not_less ↦ let top : byte ≡ n = omega arith in rw top parts.0
    ]

line-escape_byte : (byte : ℕ) → All IsInLine (escape_byte byte)
line-escape_byte byte = elim (cases_lt byte 93) [
  | inl low ↦ All-from_test (escape_byte byte) (low_escape 93 byte low_escapes_in_line low)
  | inr high ↦
      let itself : IsInLine byte = (omega arith, omega arith, omega arith) in
      rw (escape_byte_plain byte (omega arith) (omega arith) (omega arith)) (All-cons IsInLine byte [] itself (All-nil IsInLine))
]

pub line-flat_map : {X : Type 0} (f : X → List ℕ) → ((x : X) → All IsInLine (f x)) → (xs : List X) → All IsInLine (flat_map f xs)
line-flat_map f each [] = All-nil IsInLine
line-flat_map f each (x ∷ xs) = All-append IsInLine (f x) (flat_map f xs) (each x) (line-flat_map f each xs)

pub line-quoted : (text : List ℕ) → All IsInLine (quoted text)
unfolding in_line
line-quoted text =
    let mark = All-from_test (34 ∷ []) refl in
    All-append IsInLine (34 ∷ escape text) (34 ∷ []) (All-append IsInLine (34 ∷ []) (escape text) mark (line-flat_map escape_byte line-escape_byte text)) mark

line-after_comma : (text : List ℕ) → All IsInLine (codes "," ++ quoted text)
unfolding in_line
line-after_comma text = All-append IsInLine (codes ",") (quoted text) (All-from_test (codes ",") refl) (line-quoted text)

line-joined : (texts : List (List ℕ)) → All IsInLine (join_by quoted (codes ",") texts)
line-joined [] = All-nil IsInLine
line-joined (text ∷ texts) = All-append IsInLine (quoted text) (flat_map (λ other. codes "," ++ quoted other) texts) (line-quoted text) (line-flat_map (λ other. codes "," ++ quoted other) line-after_comma texts)

pub line-list_text : (texts : List (List ℕ)) → All IsInLine (list_text texts)
unfolding in_line
line-list_text texts =
    let joined = join_by quoted (codes ",") texts in
    All-append IsInLine (codes "[" ++ joined) (codes "]") (All-append IsInLine (codes "[") joined (All-from_test (codes "[") refl) (line-joined texts)) (All-from_test (codes "]") refl)
