-- What a shelf keeps at the end of every turn.
use Rattle.std.specs.Prelude.{◌≡◌, ◌<◌, ◌≤◌, ℕ, Bool, false, IsTrue, List, length}
use Rattle.std.specs.List.{list_any}
use Rattle.folder_disk.specs.Contents.{Contents}
use Rattle.hist_journal.specs.declared.device.Device.TheVariants.{Folder}
use Rattle.hist_journal.specs.declared.seen.BaseSeen.{BaseSeen}
use Rattle.hist_journal.specs.declared.seen.BaseSeen.TheVariants.{Held}
use Rattle.hist_journal.specs.declared.seen.EntrySeen.{EntrySeen}
use Rattle.hist_journal.specs.Folds.{edition_of}
use Rattle.shelf.specs.declared.store.Store.{Store}
use Rattle.shelf.specs.Base.{HasItsBase}
use Rattle.shelf.specs.FaultCounts.{count_after, has_reached}
use Rattle.shelf.specs.Images.{main_at}
use Rattle.shelf.specs.Legal.{Legal, value_at}
use Rattle.shelf.specs.Rules.{Rules, weight_at}

-- `IsValue` holds of the values of the codec
module _ {V T M : Type 0} (r : Rules V T) (IsValue : V → Type 0) (s : Store V M) where
  -- the value may be main: it is one of the codec's, and its text is within the limit
  pub record MayBeMain (v : V) : Type 0 where
    pub known : IsValue v
    pub fits : length (r.encoded v) ≤ s.limits.file

  -- a value that may be main
  pub record IsStored (base : BaseSeen V) : Type 0 where
    pub value : V
    pub held : base ≡ Held value
    pub may : MayBeMain value

  -- the history is lawful, and main is what it makes of it
  pub record KeptMain (folder : Contents) (list : List (EntrySeen V T)) : Type 0 where
    pub legal : Legal r.meanings s list
    pub main : folder.main ≡ main_at r.meanings r.encoded s list
    pub base : HasItsBase r.reads r.absent s
    pub changed : (edition_of list ≡ 0 → ⊥) → IsStored (value_at r.meanings s list)

  -- `told` says whether the folder tells what it holds, `count` is its count of faults, and `weight` that of the history
  pub record Kept (told : Bool) (folder : Contents) (count weight : ℕ) (list : List (EntrySeen V T)) : Type 0 where
    pub main : IsTrue told → KeptMain folder list
    pub weight_now : weight ≡ weight_at r list
    -- a folder that tells what it does counts as the history: by its last Fault, or as at the start
    pub counted : IsTrue told → count ≡ count_after Folder s.folder.count list
    -- of any folder, the count is not less than at the start, nor than that of a Fault
    pub first : s.folder.count ≤ count
    pub counts : (greater : ℕ) → count < greater → list_any (λ e. has_reached Folder greater e.kind) list ≡ false
