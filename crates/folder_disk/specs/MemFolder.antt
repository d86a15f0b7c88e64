-- What a folder in memory stands for.
use Rattle.std.specs.Prelude.{ℕ, ◌≡◌, ◌+◌, ◌-◌, ◌^◌, min, true, List, [], ◌∷◌, Option, Some, length}
use Rattle.folder_disk.specs.declared.call.Planned.{Planned}
use Rattle.folder_disk.specs.declared.mem_folder.MemFolder.{MemFolder}
use Rattle.folder_disk.specs.Contents.{Contents, Gone, Images}
use Rattle.folder_disk.specs.Due.{in_order}
use Rattle.folder_disk.specs.Planned.{no_calls}
use Rattle.folder_disk.specs.Room.{Room}
use Rattle.folder_disk.specs.Tally.{Tally}

abbrev pub contents_of : MemFolder → Contents
contents_of f = record { main = f.mains.main; scratch = f.scratch.file; kept = f.mains.kept; first = f.mains.first; alone = f.mains.alone }

abbrev pub tally_of : MemFolder → Tally
tally_of f = f.plan

-- a create takes no memory
abbrev pub room_of : MemFolder → Room
room_of f = record { creates = 1; bytes = f.scratch.room; renames = f.mains.renames }

-- a folder with this main, and no scratch file
abbrev pub fresh_contents : Option (List ℕ) → Contents
fresh_contents main = record { main = main; scratch = Gone; kept = Images (main ∷ []); first = main; alone = true }

-- so many calls had failed, none was made since, and these failures are planned
abbrev pub fresh_tally : ℕ → List Planned → Tally
fresh_tally count planned = record { count = count; most = Some (min (count + length planned) (2 ^ 64 - 1)); due = record { planned = in_order planned; made = no_calls; fuses = [] } }

-- a call that was planned to fail changes nothing but the tally
pub record IsUntouched (old new : MemFolder) : Type 0 where
  pub contents : contents_of new ≡ contents_of old
  pub room : room_of new ≡ room_of old
