-- What contracts see of a script's folder.
use Rattle.folder_disk.specs.contracts.fuse_folder.FuseFolderFolder.TheImpl as fuse
use Rattle.folder_disk.specs.contracts.mem_folder.MemFolder.{the_row}
use Rattle.folder_disk.specs.contracts.mem_folder.MemFolderFolder.TheImpl as memory
use Rattle.folder_disk.specs.declared.folder.Folder as folder_trait
use Rattle.replay_run.specs.Settings.{ScriptFolder}

abbrev pub ghosts : folder_trait.Ghosts ScriptFolder
ghosts = fuse.ghosts the_row memory.ghosts fuse.no_dict fuse.no_dict
