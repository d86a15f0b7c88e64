-- What decides which calls of a folder fail, where the folder tells it.
use Rattle.std.specs.Prelude.{ℕ, ◌+◌, ◌-◌, ◌*◌, ◌==◌, nat_le, Bool, ◌&&◌, ◌||◌, List, [], ◌∷◌, if◌then◌else◌}
use Rattle.std.specs.List.{list_any}
use Rattle.store_traits.specs.Faults.{one_more}
use Rattle.folder_disk.specs.declared.call.FolderCall.{FolderCall}
use Rattle.folder_disk.specs.declared.call.FolderCall.TheVariants.{ReadMain, Create, Append, SyncScratch, Rename, SyncFolder}
use Rattle.folder_disk.specs.declared.call.Planned.{Planned}
use Rattle.folder_disk.specs.declared.call.CallCounts.{CallCounts}

-- the failures planned for the session, the calls made so far, and how many calls each fuse still lets pass, the outer fuse first
pub record Due : Type 0 where
  pub planned : List Planned
  pub made : CallCounts
  pub fuses : List ℕ

abbrev pub count_of : CallCounts → FolderCall → ℕ
count_of made ReadMain = made.read_main
count_of made Create = made.create
count_of made Append = made.append
count_of made SyncScratch = made.sync_scratch
count_of made Rename = made.rename
count_of made SyncFolder = made.sync_folder

abbrev pub counted : FolderCall → CallCounts → CallCounts
counted ReadMain made = record made { read_main = one_more made.read_main }
counted Create made = record made { create = one_more made.create }
counted Append made = record made { append = one_more made.append }
counted SyncScratch made = record made { sync_scratch = one_more made.sync_scratch }
counted Rename made = record made { rename = one_more made.rename }
counted SyncFolder made = record made { sync_folder = one_more made.sync_folder }

-- a number for each kind of call
abbrev pub kind_of : FolderCall → ℕ
kind_of ReadMain = 0
kind_of Create = 1
kind_of Append = 2
kind_of SyncScratch = 3
kind_of Rename = 4
kind_of SyncFolder = 5

-- planned failures go by their number, and by the kind of call where numbers are equal
abbrev pub rank : Planned → ℕ
rank p = p.number * 6 + kind_of p.call

unfoldable pub placed : Planned → List Planned → List Planned
placed p [] = p ∷ []
placed p (q ∷ planned) = if nat_le (rank p) (rank q) then p ∷ q ∷ planned else q ∷ placed p planned

-- planned failures in the order in which they are due
unfoldable pub in_order : List Planned → List Planned
in_order [] = []
in_order (p ∷ planned) = placed p (in_order planned)

-- whether the next such call is planned to fail
abbrev pub is_planned : FolderCall → CallCounts → List Planned → Bool
is_planned call made planned = list_any (λ p. (kind_of p.call == kind_of call) && (p.number == count_of made call + 1)) planned

-- whether a fuse is used up
abbrev pub is_blown : List ℕ → Bool
is_blown fuses = list_any (λ left. left == 0) fuses

-- whether the next such call fails
abbrev pub fails : FolderCall → Due → Bool
fails call due = is_blown due.fuses || is_planned call due.made due.planned

-- a call goes through the fuses up to the first that is used up
abbrev pub burned : List ℕ → List ℕ
burned [] = []
burned (left ∷ fuses) = if left == 0 then left ∷ fuses else (left - 1) ∷ burned fuses

-- what is due once such a call was made; one that a fuse fails is not passed on
abbrev pub taken_in : FolderCall → Due → Due
taken_in call due = record due { made = (if is_blown due.fuses then due.made else counted call due.made); fuses = burned due.fuses }
