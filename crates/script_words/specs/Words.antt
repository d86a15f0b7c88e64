-- The words of a line.
use Rattle.std.specs.Prelude.{ℕ, ◌≡◌, ◌≢◌, ◌⊎◌, List, [], ◌∷◌, ◌++◌, All, map, codes, slice_index}
use Rattle.std.specs.Borrow.{Bor}
use Rattle.std.specs.List.{join_with_byte}

abbrev pub texts_at : List (Bor (List ℕ)) → List (List ℕ)
texts_at words = map (λ word. word.now) words

-- what stands between the quotes of a quoted text: a quote only right behind a backslash, which takes the byte behind it
pub data IsQuotable : List ℕ → Type 0 where
  nothing_quoted : IsQuotable []
  quoted_byte : {text : List ℕ} (byte : ℕ) (rest : List ℕ) → text ≡ byte ∷ rest → byte ≢ 34 → byte ≢ 92 → IsQuotable rest → IsQuotable text
  quoted_escape : {text : List ℕ} (escaped : ℕ) (rest : List ℕ) → text ≡ 92 ∷ escaped ∷ rest → IsQuotable rest → IsQuotable text

-- what stands between the brackets of a list: quotes only round quoted texts, and a closing bracket only within them
pub data IsListable : List ℕ → Type 0 where
  nothing_listed : IsListable []
  listed_byte : {text : List ℕ} (byte : ℕ) (rest : List ℕ) → text ≡ byte ∷ rest → byte ≢ 34 → byte ≢ 93 → IsListable rest → IsListable text
  listed_text : {text : List ℕ} (inner rest : List ℕ) → text ≡ codes "\"" ++ (inner ++ (codes "\"" ++ rest)) → IsQuotable inner → IsListable rest → IsListable text

-- a quoted text, with its closing quote
pub record IsQuotedText (text : List ℕ) : Type 0 where
  pub inner : List ℕ
  pub marks : text ≡ codes "\"" ++ (inner ++ codes "\"")
  pub quotable : IsQuotable inner

-- a list, with its closing bracket
pub record IsBracketed (text : List ℕ) : Type 0 where
  pub inner : List ℕ
  pub marks : text ≡ codes "[" ++ (inner ++ codes "]")
  pub listable : IsListable inner

abbrev pub IsClosed : List ℕ → Type 0
IsClosed text = IsQuotedText text ⊎ IsBracketed text

-- the word begins with a quote or an opening bracket
abbrev pub HasMark : List ℕ → Type 0
HasMark word = (slice_index word 0 ≡ 34) ⊎ (slice_index word 0 ≡ 91)

abbrev pub HasNoSpace : List ℕ → Type 0
HasNoSpace text = All (λ byte. byte ≢ 32) text

-- a word that a space may follow: it has none but in a quoted text or a list that begins it, which is closed
pub record IsWhole (word : List ℕ) : Type 0 where
  pub front : List ℕ
  pub rest : List ℕ
  pub parts : word ≡ front ++ rest
  pub begins : IsClosed front ⊎ ((front ≡ []) × ¬ HasMark word)
  pub spaceless : HasNoSpace rest

-- a word that begins with a quoted text or a list that nothing closes
pub record IsUnclosed (word : List ℕ) : Type 0 where
  pub mark : HasMark word
  pub open_to_end : (front rest : List ℕ) → word ≡ front ++ rest → ¬ IsClosed front

-- the line is these words, with one space between each two; only the last may be unclosed
pub record AreWords (words : List (List ℕ)) (line : List ℕ) : Type 0 where
  pub others : List (List ℕ)
  pub last : List ℕ
  pub parts : words ≡ others ++ last ∷ []
  pub joined : line ≡ join_with_byte 32 words
  pub whole : All IsWhole others
  pub ends : IsWhole last ⊎ IsUnclosed last
