-- A line by its first word, and what may stand behind it.
use Rattle.std.specs.Prelude.{ℕ, ◌≡◌, ◌≢◌, ◌<◌, ◌⊎◌, true, List, [], ◌∷◌, length, codes}
use Rattle.hex.specs.Hex.{encode_lower, IsBytes}
use Rattle.folder_disk.specs.declared.call.FolderCall.{FolderCall}
use Rattle.folder_disk.specs.declared.call.FolderCall.TheVariants.{ReadMain, Create, Append, SyncScratch, Rename, SyncFolder}
use Rattle.folder_disk.specs.declared.call.Planned.{Planned}
use Rattle.folder_disk.specs.declared.main_read.MainRead.{MainRead}
use Rattle.folder_disk.specs.declared.main_read.MainRead.TheVariants.{Absent, Bytes}
use Rattle.store_traits.specs.declared.step.Step.{Step}
use Rattle.script_words.specs.Names.{IsName}
use Rattle.script_words.specs.Numbers.{IsNumberWithin}
use Rattle.script_words.specs.Words.{AreWords}
use Rattle.script_lang.specs.declared.parsing.line_word.LineWord.{LineWord}
use Rattle.script_lang.specs.DeathSteps.{can_die_at, step_text}
use Rattle.script_lang.specs.LineWord.{line_word}

-- a line word, or another word in the place of a client, with the words behind it
pub data Row : Type 0 where
  keyword : LineWord → List (List ℕ) → Row
  call : List ℕ → List (List ℕ) → Row

abbrev pub IsRow : List (List ℕ) → Row → Type 0
IsRow words (keyword word behind) = words ≡ line_word word ∷ behind
IsRow words (call first behind) = (words ≡ first ∷ behind) × ((word : LineWord) → first ≢ line_word word)

pub record HasRow (line : List ℕ) (row : Row) : Type 0 where
  pub words : List (List ℕ)
  pub of_line : AreWords words line
  pub is : IsRow words row

-- an empty line, or a comment
abbrev pub IsSkipped : List ℕ → Type 0
IsSkipped [] = Unit {0}
IsSkipped (byte ∷ rest) = byte ≡ 35

-- two digits for each byte, of which there is one at least
pub record SpellsBytes (word bytes : List ℕ) : Type 0 where
  pub some : 0 < length bytes
  pub digits : word ≡ encode_lower bytes
  pub are_bytes : IsBytes bytes

abbrev pub IsFileWord : List ℕ → MainRead → Type 0
IsFileWord word Absent = word ≡ codes "none"
IsFileWord word (Bytes bytes) = ((bytes ≡ []) × (word ≡ codes "empty")) ⊎ SpellsBytes word bytes

-- `file HEX`, `file empty`, `file none`
pub record IsFileRow (behind : List (List ℕ)) (main : MainRead) : Type 0 where
  pub word : List ℕ
  pub row : behind ≡ word ∷ []
  pub is_file : IsFileWord word main

-- `history N`
pub record IsHistoryRow (behind : List (List ℕ)) (entries : ℕ) : Type 0 where
  pub word : List ℕ
  pub row : behind ≡ word ∷ []
  pub is_number : IsNumberWithin word 1 100000 entries

-- `node NAME`
pub record IsNodeRow (behind : List (List ℕ)) (name : List ℕ) : Type 0 where
  pub row : behind ≡ name ∷ []
  pub is_name : IsName name

-- `client NAME on NODE`
pub record IsClientRow (behind : List (List ℕ)) (name home : List ℕ) : Type 0 where
  pub row : behind ≡ name ∷ codes "on" ∷ home ∷ []
  pub is_name : IsName name

-- the calls of the folder by their words
abbrev pub folder_call : FolderCall → List ℕ
folder_call ReadMain = codes "read_main"
folder_call Create = codes "create"
folder_call Append = codes "append"
folder_call SyncScratch = codes "sync"
folder_call Rename = codes "rename"
folder_call SyncFolder = codes "sync_folder"

pub record IsFolderCall (word : List ℕ) : Type 0 where
  pub call : FolderCall
  pub is : word ≡ folder_call call

-- `fault CALL N`
pub record IsFaultRow (behind : List (List ℕ)) (planned : Planned) : Type 0 where
  pub word : List ℕ
  pub row : behind ≡ folder_call planned.call ∷ word ∷ []
  pub is_number : IsNumberWithin word 1 4294967295 planned.number

-- `fuse N`
pub record IsFuseRow (behind : List (List ℕ)) (left : ℕ) : Type 0 where
  pub word : List ℕ
  pub row : behind ≡ word ∷ []
  pub is_number : IsNumberWithin word 0 4294967295 left

-- `die CLIENT N STEP`
pub record IsDieRow (behind : List (List ℕ)) (client : List ℕ) (number : ℕ) (step : Step) : Type 0 where
  pub word : List ℕ
  pub row : behind ≡ client ∷ word ∷ step_text step ∷ []
  pub is_number : IsNumberWithin word 1 4294967295 number
  pub can_die : can_die_at step ≡ true

-- `go CLIENT N`
pub record IsGoRow (behind : List (List ℕ)) (client : List ℕ) (steps : ℕ) : Type 0 where
  pub word : List ℕ
  pub row : behind ≡ client ∷ word ∷ []
  pub is_number : IsNumberWithin word 0 1000 steps
