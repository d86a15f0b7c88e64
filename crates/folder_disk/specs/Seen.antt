-- What contracts see of any folder.
use Rattle.std.specs.Prelude.{Bool}
use Rattle.folder_disk.specs.declared.folder.Folder as folder_trait
use Rattle.folder_disk.specs.Contents.{Contents}
use Rattle.folder_disk.specs.Tally.{Tally}

-- whether it tells what it holds, what that is, and its count of faults with what is due
pub record FolderSeen : Type 0 where
  pub told : Bool
  pub contents : Contents
  pub tally : Tally

abbrev pub folder_seen : {D : Type 0} → folder_trait.Ghosts D → D → FolderSeen
folder_seen f folder = record { told = f.told; contents = f.contents folder; tally = f.tally folder }
