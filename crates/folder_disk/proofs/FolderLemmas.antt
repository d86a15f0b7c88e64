-- A call that failed and changed nothing leaves the scratch file as a failed call may.
use Rattle.std.proofs.Common.{◌≡◌, refl, Result, Ok, Err, OnErr}
use Rattle.folder_disk.specs.declared.mem_folder.MemFolder.{MemFolder}
use Rattle.folder_disk.specs.Contents.{Contents, LoosensScratch, same}
use Rattle.folder_disk.specs.MemFolder.{IsUntouched, contents_of}

pub loosens_same : (old new : Contents) → new ≡ old → LoosensScratch old new
loosens_same old new e = rw e (record { main = refl; kept = refl; first = refl; alone = refl; scratch = same })

pub fails_untouched : {A E : Type 0} (r : Result A E) (old new : MemFolder) → OnErr r (IsUntouched old new) → OnErr r (LoosensScratch (contents_of old) (contents_of new))
fails_untouched (Ok a) old new h = tt
fails_untouched (Err e) old new h = loosens_same _ _ h.contents

pub spared_untouched : {A E : Type 0} (r : Result A E) (old new : MemFolder) → OnErr r (IsUntouched old new) → OnErr r (contents_of new ≡ contents_of old)
spared_untouched (Ok a) old new h = tt
spared_untouched (Err e) old new h = h.contents
