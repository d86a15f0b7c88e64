-- What the lines say that have calls of the folder fail, and which of their rules are broken first.
use Rattle.std.proofs.Common.{ℕ, ◌≡◌, ◌<◌, ◌≤◌, ◌∙◌, List, [], ◌∷◌, length, get_or, Bor, ap, refl, arith}
use Rattle.folder_disk.specs.declared.call.FolderCall.{FolderCall}
use Rattle.folder_disk.specs.declared.call.Planned.{Planned}
use Rattle.script_words.specs.Numbers.{IsNumberWithin}
use Rattle.script_words.specs.Words.{texts_at}
use Rattle.script_lang.specs.declared.parsing.draft.Draft.{Draft}
use Rattle.script_lang.specs.declared.parsing.line.Line.TheVariants as said
use Rattle.script_lang.specs.declared.parsing.line_word.LineWord.TheVariants.{Fault, Fuse}
use Rattle.script_lang.specs.declared.parsing.script_error.ScriptFault.TheVariants.{WrongPlace}
use Rattle.script_lang.specs.declared.plan.mode.Mode.TheVariants.{Nodes}
use Rattle.script_lang.specs.Faults.{HasUnknownWord}
use Rattle.script_lang.specs.Reading.{RowSays, IsRowFault}
use Rattle.script_lang.specs.Rows.{keyword, folder_call, IsFaultRow, IsFuseRow}
use Rattle.script_lang.proofs.RowFaults.{wrong_place_first, row_says}
use Rattle.script_lang.proofs.WordLemmas.{no_word, two_texts}

-- a call of the folder is spelled
known : (words : List (Bor (List ℕ))) (call : FolderCall) → 2 ≤ length words → (get_or words 0 no_word).now ≡ folder_call call → ¬ HasUnknownWord (keyword Fault (texts_at words))
known [] call some is = absurd (omega (arith, some))
known (word ∷ words) call some is = λ unknown. unknown (record { call = call; is = is })

module _ (draft : Draft) where
  module _ (words : List (Bor (List ℕ))) (two : 2 ≤ length words) (no_more : length words < 3) (planned : Planned) (is : (get_or words 0 no_word).now ≡ folder_call planned.call)
      (is_number : IsNumberWithin (get_or words 1 no_word).now 1 4294967295 planned.number) where
    known_call : ¬ HasUnknownWord (keyword Fault (texts_at words))
    known_call = known words planned.call two is

    row_is : IsFaultRow (texts_at words) planned
    row_is = record {
      word = (get_or words 1 no_word).now;
      row = two_texts words two no_more ∙ ap (λ (first : List ℕ). first ∷ (get_or words 1 no_word).now ∷ []) is;
      is_number = is_number;
    }

    pub fault_barred : draft.mode ≡ Nodes → IsRowFault draft (keyword Fault (texts_at words)) WrongPlace
    fault_barred barred = wrong_place_first draft (keyword Fault (texts_at words)) known_call (λ bad. bad planned row_is) (λ h. h) (λ h. h) (λ h. h) barred

    pub fault_said : ¬ (draft.mode ≡ Nodes) → RowSays draft (keyword Fault (texts_at words)) (said.Fault planned)
    fault_said free = row_says draft (keyword Fault (texts_at words)) (said.Fault planned) (record { behind = texts_at words; is = refl; follow = row_is })
        known_call (λ bad. bad planned row_is) (λ h. h) (λ h. h) (λ h. h) free

  module _ (behind : List (List ℕ)) (left : ℕ) (row : IsFuseRow behind left) where
    pub fuse_barred : draft.mode ≡ Nodes → IsRowFault draft (keyword Fuse behind) WrongPlace
    fuse_barred barred = wrong_place_first draft (keyword Fuse behind) (λ h. h) (λ bad. bad left row) (λ h. h) (λ h. h) (λ h. h) barred

    pub fuse_said : ¬ (draft.mode ≡ Nodes) → RowSays draft (keyword Fuse behind) (said.Fuse left)
    fuse_said free = row_says draft (keyword Fuse behind) (said.Fuse left) (record { behind = behind; is = refl; follow = row })
        (λ h. h) (λ bad. bad left row) (λ h. h) (λ h. h) (λ h. h) free
