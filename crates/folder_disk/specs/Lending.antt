-- The folder within another, lent.
use Rattle.std.specs.Borrow.{Fml, Lends, MutBor, RattleType}
use Rattle.folder_disk.specs.contracts.fuse_folder.FuseFolder.{the_row}
use Rattle.folder_disk.specs.declared.fuse_folder.FuseFolder.{FuseFolder}

module _ (F : RattleType) (folder : MutBor (FuseFolder F.Denot)) where
  -- once the borrow ends, the folder within is what it shows last
  abbrev pub lends_inner : MutBor F.Denot → Fml
  lends_inner inner = Lends (the_row F) F folder inner (λ last. record folder.now { inner = last })
