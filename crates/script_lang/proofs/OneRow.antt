-- Each line has one row.
use Rattle.std.proofs.Common.{ℕ, ◌≡◌, ◌==◌, ◌+◌, ◌*◌, ◌∙◌, List, ◌∷◌, length, cond, ap, sym, refl, subst}
use Rattle.std.specs.Prelude.{slice_index}
use Rattle.folder_disk.specs.declared.call.FolderCall.{FolderCall}
use Rattle.folder_disk.specs.declared.call.FolderCall.TheVariants.{ReadMain, Create, Append, SyncScratch, Rename, SyncFolder}
use Rattle.script_words.proofs.OneLine.{one_list}
use Rattle.script_lang.specs.declared.parsing.line_word.LineWord.{LineWord}
use Rattle.script_lang.specs.declared.parsing.line_word.LineWord.TheVariants.{File, History, Handler, Legacy, Migrate, Node, Client, Fault, Fuse, Die, Go, Stop}
use Rattle.script_lang.specs.LineWord.{line_word}
use Rattle.script_lang.specs.Rows.{Row, keyword, call, HasRow, IsRow, folder_call}

-- a line word by its first two letters and its length
word_at : ℕ → LineWord
word_at code = cond (code == 421) File (cond (code == 426) History (cond (code == 402) Handler (cond (code == 417) Legacy (cond (code == 431) Migrate (cond (code == 447) Node (cond (code == 429) Client (cond (code == 398) Fault (cond (code == 457) Fuse (cond (code == 418) Die (cond (code == 438) Go Stop))))))))))

code_of : List ℕ → ℕ
code_of text = slice_index text 0 + 3 * slice_index text 1 + length text

word_at-code : (word : LineWord) → word_at (code_of (line_word word)) ≡ word
unfolding word_at code_of
word_at-code File = refl
word_at-code History = refl
word_at-code Handler = refl
word_at-code Legacy = refl
word_at-code Migrate = refl
word_at-code Node = refl
word_at-code Client = refl
word_at-code Fault = refl
word_at-code Fuse = refl
word_at-code Die = refl
word_at-code Go = refl
word_at-code Stop = refl

pub one_word : (a b : LineWord) → line_word a ≡ line_word b → a ≡ b
one_word a b e = sym (word_at-code a) ∙ ap (λ text. word_at (code_of text)) e ∙ word_at-code b

-- a call of the folder by the same
call_at : ℕ → FolderCall
call_at code = cond (code == 426) ReadMain (cond (code == 447) Create (cond (code == 439) Append (cond (code == 482) SyncScratch (cond (code == 423) Rename SyncFolder))))

call_at-code : (call : FolderCall) → call_at (code_of (folder_call call)) ≡ call
unfolding call_at code_of
call_at-code ReadMain = refl
call_at-code Create = refl
call_at-code Append = refl
call_at-code SyncScratch = refl
call_at-code Rename = refl
call_at-code SyncFolder = refl

pub one_folder_call : (a b : FolderCall) → folder_call a ≡ folder_call b → a ≡ b
one_folder_call a b e = sym (call_at-code a) ∙ ap (λ text. call_at (code_of text)) e ∙ call_at-code b

pub first_same : {X : Type 0} (a b : X) (more rest : List X) → a ∷ more ≡ b ∷ rest → (a ≡ b) × (more ≡ rest)
first_same a b more rest e = (cc, cc)

rows_agree : (words : List (List ℕ)) (a b : Row) → IsRow words a → IsRow words b → a ≡ b
rows_agree words (keyword word behind) (keyword other more) is also =
    let same = first_same (line_word word) (line_word other) behind more (sym is ∙ also) in
    let named : word ≡ other = one_word word other same.0 in
    let follow : behind ≡ more = same.1 in
    cc
rows_agree words (keyword word behind) (call first more) is also =
    let same = first_same first (line_word word) more behind (sym also.0 ∙ is) in
    absurd (also.1 word same.0)
rows_agree words (call first behind) (keyword other more) is also =
    let same = first_same first (line_word other) behind more (sym is.0 ∙ also) in
    absurd (is.1 other same.0)
rows_agree words (call first behind) (call second more) is also =
    let same = first_same first second behind more (sym is.0 ∙ also.0) in
    let named : first ≡ second = same.0 in
    let follow : behind ≡ more = same.1 in
    cc

pub one_row : (line : List ℕ) (a b : Row) → HasRow line a → HasRow line b → a ≡ b
one_row line a b has also =
    let words = one_list line also.words has.words also.of_line has.of_line in
    rows_agree has.words a b has.is (let P : List (List ℕ) → Type 0 = λ w. IsRow w b in subst P words also.is)
